-- Legal sessions: one reply to each request, each of them right at its point.
use Rattle.std.specs.Prelude.{◌≡◌, ℕ, ◌-◌, ◌<◌, ◌≤◌, Bool, true, false, List, [], ◌∷◌, length, take, Option, Some, slice_get}
use Rattle.std.specs.List.{flat_map}
use Rattle.plan_schema.specs.declared.name.Name.{Name}
use Rattle.plan_schema.specs.declared.change.Change.{Change}
use Rattle.plan_schema.specs.declared.change.Change.TheVariants as changes
use Rattle.plan_schema.specs.declared.change.Entry.{Entry}
use Rattle.plan_schema.specs.declared.refusal.Refusal.TheVariants as refusals
use Rattle.plan_schema.specs.Contents.{Contents}
use Rattle.command_words.specs.declared.command.Command.{Command}
use Rattle.command_words.specs.declared.command.Command.TheVariants as commands
use Rattle.command_words.specs.declared.reply.Reply.{Reply}
use Rattle.command_words.specs.declared.reply.Reply.TheVariants as replies
use Rattle.command_words.specs.Replies.{reply_text}
use Rattle.session_rules.specs.Requests.{Wish, Makes, Asks, IsBad, Request, user_after, guest}
use Rattle.session_rules.specs.Answers.{answer, change_answer}

-- the point that a reply prints, or the one before where it prints none
abbrev pub point_after : ℕ → Reply → ℕ
point_after last (replies.Ok point) = point
point_after last (replies.Rows point lines) = point
point_after last (replies.No point refusal) = point
point_after last reply = last

-- whether there is always memory for the answer
abbrev pub needs_no_memory : Command → Bool
needs_no_memory (commands.Hello name) = true
needs_no_memory commands.Point = true
needs_no_memory commands.Quit = true
needs_no_memory command = false

-- a change that may get no memory where nothing can be changed: a LOAD, whose rows are held before it is answered
abbrev pub is_load : Change → Bool
is_load (changes.Load scenario rows) = true
is_load change = false

module _ (may_change : Bool) (base : Contents) (history : List Entry) (session floor : ℕ) where
  -- entry number `point` stands above the floor, and is this change, made by this user in this line of the session
  pub record IsEntry (line : ℕ) (user : Name) (change : Change) (point : ℕ) : Type 0 where
    pub above : floor < point
    pub entry : slice_get history (point - 1) ≡ Some (record { session = session; line = line; user = user; change = change })

  -- a point is no less than the last one, and not past the history
  pub record IsPoint (last point : ℕ) : Type 0 where
    pub later : last ≤ point
    pub within : point ≤ length history

  module _ (last : ℕ) (user : Name) where
    -- a point, and the reply is the answer at the state after so many entries
    pub record IsAnswer (answer_after : List Entry → Option Reply) (point : ℕ) (reply : Reply) : Type 0 where
      pub in_order : IsPoint last point
      pub right : answer_after (take point history) ≡ Some reply

    -- an accepted change
    pub record IsAccepted (line : ℕ) (change : Change) (point : ℕ) : Type 0 where
      pub in_order : IsPoint last point
      pub entry : IsEntry line user change point

    -- a change is accepted at its point, refused as the definitions say, or there was no memory for it
    abbrev pub IsChangeReply : ℕ → Change → Reply → Type 0
    IsChangeReply line change (replies.Ok point) = IsAccepted line change point
    IsChangeReply line change (replies.Rows point lines) = ⊥
    IsChangeReply line change (replies.No point refusal) = IsAnswer (λ h. change_answer base h user change) point (replies.No point refusal)
    IsChangeReply line change (replies.Bad bad) = ⊥
    IsChangeReply line change replies.Mem = Unit {0}

    -- where nothing can be changed, every change is told so
    abbrev pub IsReadOnlyReply : Change → Reply → Type 0
    IsReadOnlyReply change (replies.No point refusals.ReadOnly) = IsPoint last point
    IsReadOnlyReply change replies.Mem = is_load change ≡ true
    IsReadOnlyReply change reply = ⊥

    abbrev pub IsMadeReply : Bool → ℕ → Change → Reply → Type 0
    IsMadeReply true line change reply = IsChangeReply line change reply
    IsMadeReply false line change reply = IsReadOnlyReply change reply

    -- another command gets its answer, or there was no memory for it
    abbrev pub IsCommandReply : Command → Reply → Type 0
    IsCommandReply command (replies.Ok point) = IsAnswer (λ h. answer base h user command) point (replies.Ok point)
    IsCommandReply command (replies.Rows point lines) = IsAnswer (λ h. answer base h user command) point (replies.Rows point lines)
    IsCommandReply command (replies.No point refusal) = IsAnswer (λ h. answer base h user command) point (replies.No point refusal)
    IsCommandReply command (replies.Bad bad) = ⊥
    IsCommandReply command replies.Mem = needs_no_memory command ≡ false

    -- a reply to a request: one that isn't in the grammar is told why
    abbrev pub IsReplyTo : ℕ → Wish → Reply → Type 0
    IsReplyTo line (Makes change) reply = IsMadeReply may_change line change reply
    IsReplyTo line (Asks command) reply = IsCommandReply command reply
    IsReplyTo line (IsBad bad) reply = reply ≡ replies.Bad bad

  abbrev pub IsReply : ℕ → Name → Request → Reply → Type 0
  IsReply last user request reply = IsReplyTo last user request.line request.wish reply

  -- one reply to each request, in order; `last` is the last point so far and `user` who speaks
  abbrev pub AreReplies : ℕ → Name → List Request → List Reply → Type 0
  AreReplies last user [] [] = Unit {0}
  AreReplies last user (request ∷ requests) (reply ∷ more) = IsReply last user request reply × AreReplies (point_after last reply) (user_after user request.wish) requests more
  AreReplies last user [] (reply ∷ more) = ⊥
  AreReplies last user (request ∷ requests) [] = ⊥

  -- an output is the text of replies to these requests, from the floor and the guest on
  pub record IsSession (requests : List Request) (replies_given : List Reply) (output : List ℕ) : Type 0 where
    pub legal : AreReplies floor guest requests replies_given
    pub text : output ≡ flat_map reply_text replies_given
