-- What is wrong with a session's output, request by request. The output is read from the left, a whole reply in form for each request.
use Rattle.std.specs.Prelude.{ℕ, ◌-◌, Bool, true, false, not, ◌&&◌, nat_eq, nat_lt, nat_le, List, [], ◌∷◌, ◌++◌, length, take, Option, Some, None, unwrap_or, Result, Ok, Err, slice_get, if◌then◌else◌}
use Rattle.std.specs.Cmp.Lexicographic.{pointwise}
use Rattle.plan_schema.specs.declared.name.Name.{Name}
use Rattle.plan_schema.specs.declared.change.Change.{Change}
use Rattle.plan_schema.specs.declared.change.Entry.{Entry}
use Rattle.plan_schema.specs.Contents.{Contents}
use Rattle.command_words.specs.declared.reply.Reply.{Reply}
use Rattle.command_words.specs.declared.reply.Reply.TheVariants as replies
use Rattle.command_words.specs.Forms.{Form, Done, Listed, Refused, Faulty, NoMemory, whole_reply}
use Rattle.command_words.specs.Replies.{reply_text}
use Rattle.session_rules.specs.Requests.{Wish, Makes, Asks, IsBad, Request, user_after, guest}
use Rattle.session_rules.specs.Answers.{answer, change_answer}
use Rattle.session_rules.specs.Sessions.{needs_no_memory}
use Rattle.plan_audit.specs.Same.{same_entry}
use Rattle.plan_audit.specs.declared.verdict.AuditRule.{AuditRule}
use Rattle.plan_audit.specs.declared.verdict.AuditRule.TheVariants as rules

-- one reply ----------------------------------------------------------------------------------------------------------------

-- the point that a reply of this form prints
abbrev pub point_in : Form → Option ℕ
point_in (Done point) = Some point
point_in (Listed point count) = Some point
point_in (Refused point) = Some point
point_in Faulty = None
point_in NoMemory = None

-- the last point that was printed, once a reply of this form was
abbrev pub last_after : ℕ → Form → ℕ
last_after last form = unwrap_or (point_in form) last

-- a text is that of a reply
abbrev pub is_text_of : List ℕ → Option Reply → Bool
is_text_of text None = false
is_text_of text (Some reply) = pointwise nat_eq text (reply_text reply)

-- a point is no less than the last one, and not above the ceiling
abbrev pub is_in_order : ℕ → ℕ → Option ℕ → Bool
is_in_order last ceiling None = true
is_in_order last ceiling (Some point) = nat_le last point && nat_le point ceiling

-- the entry at a place is this one
abbrev pub is_entry : Entry → Option Entry → Bool
is_entry made None = false
is_entry made (Some entry) = same_entry made entry

module _ (base : Contents) (entries : List Entry) (session : ℕ) where
  -- entry number `point` stands above the floor, and is this change, made by this user in this line of the session
  abbrev pub is_entered : ℕ → ℕ → Name → Change → ℕ → Bool
  is_entered floor line user change point =
      nat_lt floor point && is_entry (record { session = session; line = line; user = user; change = change }) (slice_get entries (point - 1))

  -- an accepted change must have been entered
  abbrev pub has_entry : ℕ → ℕ → Name → Wish → Form → Bool
  has_entry floor line user (Makes change) (Done point) = is_entered floor line user change point
  has_entry floor line user wish form = true

  -- the reply that the definitions give to a request at a point
  abbrev pub right_reply : Name → Wish → Option ℕ → Option Reply
  right_reply user (Makes change) (Some point) = change_answer base (take point entries) user change
  right_reply user (Asks command) (Some point) = answer base (take point entries) user command
  right_reply user wish point = None

  -- the reply is what the request is to be answered: an accepted change has no other answer than its point, there may be no memory for
  -- what needs some, and what isn't in the grammar is told so, at no point
  abbrev pub is_right : Name → Wish → Form → List ℕ → Bool
  is_right user (Makes change) (Done point) text = is_text_of text (Some (replies.Ok point))
  is_right user (Makes change) NoMemory text = is_text_of text (Some replies.Mem)
  is_right user (Asks command) NoMemory text = not (needs_no_memory command) && is_text_of text (Some replies.Mem)
  is_right user (IsBad bad) Faulty text = is_text_of text (Some (replies.Bad bad))
  is_right user wish form text = is_text_of text (right_reply user wish (point_in form))

  -- the first rule that a whole reply in form breaks
  abbrev pub rule_broken : ℕ → ℕ → ℕ → Name → Request → Form → List ℕ → Option AuditRule
  rule_broken floor ceiling last user request form text =
      if not (is_in_order last ceiling (point_in form)) then Some rules.Point
      else (if not (has_entry floor request.line user request.wish form) then Some rules.Entry
      else (if not (is_right user request.wish form text) then Some rules.Answer else None))

-- a session ---------------------------------------------------------------------------------------------------------------

-- what was seen of a session: the last point, who speaks, what is left of the output, the line of the last request, and the points of
-- the accepted changes
pub record Seen : Type 0 where
  pub last : ℕ
  pub user : Name
  pub left : List ℕ
  pub line : ℕ
  pub accepted : List ℕ

-- before the first request
abbrev pub none_seen : ℕ → List ℕ → Seen
none_seen floor output = record { last = floor; user = guest; left = output; line = 0; accepted = [] }

-- the point of a change that was accepted
abbrev pub point_accepted : Wish → Form → List ℕ
point_accepted (Makes change) (Done point) = point ∷ []
point_accepted wish form = []

-- a line, and the rule that is broken there
pub record Broken : Type 0 where
  pub line : ℕ
  pub rule : AuditRule

-- what follows, where nothing was broken before
abbrev pub if_sound : {A B F : Type 0} → Result A F → (A → Result B F) → Result B F
if_sound (Ok x) more = more x
if_sound (Err fault) more = Err fault

module _ (base : Contents) (entries : List Entry) (session floor ceiling : ℕ) where
  -- a whole reply in form was read, and this stands behind it
  abbrev pub reply_seen : Seen → Request → Form → List ℕ → Option AuditRule → Result Seen Broken
  reply_seen seen request form behind (Some rule) = Err (record { line = request.line; rule = rule })
  reply_seen seen request form behind None =
      Ok (record {
        last = last_after seen.last form;
        user = user_after seen.user request.wish;
        left = behind;
        line = request.line;
        accepted = seen.accepted ++ point_accepted request.wish form;
      })

  -- the output has no more bytes, or they don't begin with a whole reply in form, or this is the reply
  abbrev pub reply_read : Seen → Request → List ℕ → Option (Form × List ℕ) → Result Seen Broken
  reply_read seen request [] told = Err (record { line = request.line; rule = rules.Short })
  reply_read seen request (byte ∷ bytes) None = Err (record { line = request.line; rule = rules.Form })
  reply_read seen request (byte ∷ bytes) (Some (form, behind)) =
      let text = take (length (byte ∷ bytes) - length behind) (byte ∷ bytes) in
      reply_seen seen request form behind (rule_broken base entries session floor ceiling seen.last seen.user request form text)

  -- the reply to one request
  unfoldable pub seen_after : Seen → Request → Result Seen Broken
  seen_after seen request = reply_read seen request seen.left (whole_reply seen.left)

  -- the replies to requests, one behind the other, up to the first rule that is broken
  unfoldable pub all_seen : Seen → List Request → Result Seen Broken
  all_seen seen [] = Ok seen
  all_seen seen (request ∷ requests) = if_sound (seen_after seen request) (λ next. all_seen next requests)
