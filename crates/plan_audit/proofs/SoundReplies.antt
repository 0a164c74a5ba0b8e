-- A legal reply breaks no rule.
use Rattle.std.proofs.Common.{◌≡◌, ℕ, ◌+◌, ◌-◌, ◌≤◌, Bool, true, not, List, [], ◌∷◌, ◌++◌, Option, Some, None, Ok, length, take, refl, sym, ap, ◌∙◌, subst, arith, lt-ltb, le-leb, length-append, append_assoc, append-nil}
use Rattle.std.specs.Prelude.{nat_eq, if◌then◌else◌}
use Rattle.std.specs.List.{flat_map, AllByRecursion}
use Rattle.std.specs.Cmp.Lexicographic.{pointwise, bytes_decides}
use Rattle.std.proofs.Math.Seq.{take-append_seam}
use Rattle.plan_schema.specs.declared.name.Name.{Name}
use Rattle.plan_schema.specs.declared.change.Entry.{Entry}
use Rattle.plan_schema.specs.Contents.{Contents}
use Rattle.command_words.specs.declared.reply.Reply.{Reply}
use Rattle.command_words.specs.declared.reply.Reply.TheVariants as replies
use Rattle.command_words.specs.Forms.{Form, form, whole_reply, is_within_limits}
use Rattle.command_words.specs.Replies.{reply_text}
use Rattle.command_words.proofs.Forms.{form_told}
use Rattle.session_rules.specs.Requests.{Wish, Makes, Asks, IsBad, Request, user_after}
use Rattle.session_rules.specs.Answers.{answer, change_answer}
use Rattle.session_rules.specs.Sessions.{IsReplyTo, IsReply, AreReplies, point_after}
use Rattle.session_rules.specs.Runs.{accepted_point, accepted_points}
use Rattle.plan_audit.specs.declared.verdict.AuditRule.TheVariants as rules
use Rattle.plan_audit.specs.Judging.{point_in, last_after, is_text_of, is_in_order, is_entry, has_entry, is_right, rule_broken, point_accepted, Seen, if_sound, reply_seen, reply_read, seen_after, all_seen}
use Rattle.plan_audit.proofs.Itself.{entry_itself}
use Rattle.plan_audit.proofs.Values.{both_pass}

text_itself : (text : List ℕ) → pointwise nat_eq text text ≡ true
text_itself text = (bytes_decides text text).1 refl

none_broken : (a b c : Bool) → a ≡ true → b ≡ true → c ≡ true → (if not a then Some rules.Point else (if not b then Some rules.Entry else (if not c then Some rules.Answer else None))) ≡ None
none_broken a b c h k l = λ i. if not (h i) then Some rules.Point else (if not (k i) then Some rules.Entry else (if not (l i) then Some rules.Answer else None))

module _ (base : Contents) (entries : List Entry) (session floor ceiling last : ℕ) (user : Name) (line : ℕ) where
  record IsSound (wish : Wish) (reply : Reply) : Type 0 where
    order : is_in_order last ceiling (point_in (form reply)) ≡ true
    entry : has_entry base entries session floor line user wish (form reply) ≡ true
    right : is_right base entries session user wish (form reply) (reply_text reply) ≡ true

  ordered : (point : ℕ) → last ≤ point → point ≤ ceiling → is_in_order last ceiling (Some point) ≡ true
  ordered point later under = both_pass (le-leb last point later) (le-leb point ceiling under)

  spelled : (reply : Reply) (right : Option Reply) → right ≡ Some reply → is_text_of (reply_text reply) right ≡ true
  spelled reply right is = ap (is_text_of (reply_text reply)) is ∙ text_itself (reply_text reply)

  sound : (wish : Wish) (reply : Reply) → IsReplyTo true base entries session floor last user line wish reply → point_after 0 reply ≤ ceiling → IsSound wish reply
  sound (Makes change) (replies.Ok point) legal under =
      let made : Entry = record { session = session; line = line; user = user; change = change } in
      record {
        order = ordered point legal.in_order.later under;
        entry = both_pass (lt-ltb floor point legal.entry.above) (ap (is_entry made) legal.entry.entry ∙ entry_itself made);
        right = text_itself (reply_text (replies.Ok point));
      }
  sound (Makes change) (replies.Rows point lines) legal under = absurd legal
  sound (Makes change) (replies.No point refusal) legal under =
      record {
        order = ordered point legal.in_order.later under;
        entry = refl;
        right = spelled (replies.No point refusal) (change_answer base (take point entries) user change) legal.right;
      }
  sound (Makes change) (replies.Bad bad) legal under = absurd legal
  sound (Makes change) replies.Mem legal under = record { order = refl; entry = refl; right = text_itself (reply_text replies.Mem) }
  sound (Asks command) (replies.Ok point) legal under =
      record { order = ordered point legal.in_order.later under; entry = refl; right = spelled (replies.Ok point) (answer base (take point entries) user command) legal.right }
  sound (Asks command) (replies.Rows point lines) legal under =
      record { order = ordered point legal.in_order.later under; entry = refl; right = spelled (replies.Rows point lines) (answer base (take point entries) user command) legal.right }
  sound (Asks command) (replies.No point refusal) legal under =
      record { order = ordered point legal.in_order.later under; entry = refl; right = spelled (replies.No point refusal) (answer base (take point entries) user command) legal.right }
  sound (Asks command) (replies.Bad bad) legal under = absurd legal
  sound (Asks command) replies.Mem legal under = record { order = refl; entry = refl; right = both_pass (ap not legal) (text_itself (reply_text replies.Mem)) }
  sound (IsBad bad) reply legal under = subst (IsSound (IsBad bad)) (sym legal) (record { order = refl; entry = refl; right = text_itself (reply_text (replies.Bad bad)) })

-- the form of a reply tells its point, and the point of an accepted change
last_told : (last : ℕ) (reply : Reply) → last_after last (form reply) ≡ point_after last reply
last_told last (replies.Ok point) = refl
last_told last (replies.Rows point lines) = refl
last_told last (replies.No point refusal) = refl
last_told last (replies.Bad bad) = refl
last_told last replies.Mem = refl

point_told : (wish : Wish) (reply : Reply) → point_accepted wish (form reply) ≡ accepted_point wish reply
point_told (Makes change) (replies.Ok point) = refl
point_told (Makes change) (replies.Rows point lines) = refl
point_told (Makes change) (replies.No point refusal) = refl
point_told (Makes change) (replies.Bad bad) = refl
point_told (Makes change) replies.Mem = refl
point_told (Asks command) reply = refl
point_told (IsBad bad) reply = refl

some_bytes : (form : Form) (rest : List ℕ) → whole_reply [] ≡ Some (form, rest) → ⊥
unfolding whole_reply
some_bytes form rest e = let no = e in cc

module _ (base : Contents) (entries : List Entry) (session floor ceiling : ℕ) where
  next_of : Seen → Request → Reply → List ℕ → Seen
  next_of seen request reply rest =
      record {
        last = last_after seen.last (form reply);
        user = user_after seen.user request.wish;
        left = rest;
        line = request.line;
        accepted = seen.accepted ++ point_accepted request.wish (form reply);
      }

  read_so : (seen : Seen) (request : Request) (reply : Reply) (rest left : List ℕ) → left ≡ reply_text reply ++ rest → whole_reply left ≡ Some (form reply, rest)
      → IsReply true base entries session floor seen.last seen.user request reply → point_after 0 reply ≤ ceiling
      → reply_read base entries session floor ceiling seen request left (whole_reply left) ≡ Ok (next_of seen request reply rest)
  unfolding next_of
  read_so seen request reply rest [] is told legal under = absurd (some_bytes (form reply) rest told)
  read_so seen request reply rest (byte ∷ bytes) is told legal under =
      let left = byte ∷ bytes in
      let count : length left - length rest ≡ length (reply_text reply) = let all : length left ≡ length (reply_text reply) + length rest = ap length is ∙ length-append (reply_text reply) rest in omega arith in
      let text : take (length left - length rest) left ≡ reply_text reply = ap (λ n. take n left) count ∙ ap (take (length (reply_text reply))) is ∙ take-append_seam (reply_text reply) rest in
      let s = sound base entries session floor ceiling seen.last seen.user request.line request.wish reply legal under in
      let none =
      none_broken (is_in_order seen.last ceiling (point_in (form reply))) (has_entry base entries session floor request.line seen.user request.wish (form reply))
      (is_right base entries session seen.user request.wish (form reply) (reply_text reply)) s.order s.entry s.right in
      ap (reply_read base entries session floor ceiling seen request (byte ∷ bytes)) told
      ∙ ap (λ t. reply_seen base entries session floor ceiling seen request (form reply) rest (rule_broken base entries session floor ceiling seen.last seen.user request (form reply) t)) text
      ∙ ap (reply_seen base entries session floor ceiling seen request (form reply) rest) none

  seen_so : (seen : Seen) (request : Request) (reply : Reply) (rest : List ℕ) → seen.left ≡ reply_text reply ++ rest → is_within_limits reply ≡ true
      → IsReply true base entries session floor seen.last seen.user request reply → point_after 0 reply ≤ ceiling
      → seen_after base entries session floor ceiling seen request ≡ Ok (next_of seen request reply rest)
  unfolding seen_after
  seen_so seen request reply rest is short legal under = read_so seen request reply rest seen.left is (ap whole_reply is ∙ form_told reply rest short) legal under

  pub record AllSeen (seen : Seen) (requests : List Request) (given : List Reply) (rest : List ℕ) : Type 0 where
    pub next : Seen
    pub is : all_seen base entries session floor ceiling seen requests ≡ Ok next
    pub left : next.left ≡ rest
    pub accepted : next.accepted ≡ seen.accepted ++ accepted_points requests given

  pub all_so : (seen : Seen) (requests : List Request) (given : List Reply) (rest : List ℕ) → seen.left ≡ flat_map reply_text given ++ rest
      → AreReplies true base entries session floor seen.last seen.user requests given → AllByRecursion (λ reply. point_after 0 reply ≤ ceiling) given
      → AllByRecursion (λ reply. is_within_limits reply ≡ true) given → AllSeen seen requests given rest
  unfolding all_seen next_of
  all_so seen [] [] rest is legal under short = record { next = seen; is = refl; left = is; accepted = sym (append-nil seen.accepted) }
  all_so seen [] (reply ∷ more) rest is legal under short = absurd legal
  all_so seen (request ∷ requests) [] rest is legal under short = absurd legal
  all_so seen (request ∷ requests) (reply ∷ more) rest is legal under short =
      let behind = flat_map reply_text more ++ rest in
      let whole : seen.left ≡ reply_text reply ++ behind = is ∙ append_assoc (reply_text reply) (flat_map reply_text more) rest in
      let one = seen_so seen request reply behind whole short.0 legal.0 under.0 in
      let next = next_of seen request reply behind in
      let rests = all_so next requests more rest refl (subst (λ n. AreReplies true base entries session floor n (user_after seen.user request.wish) requests more) (sym (last_told seen.last reply)) legal.1) under.1 short.1 in
      record {
        next = rests.next;
        is = ap (λ r. if_sound r (λ n. all_seen base entries session floor ceiling n requests)) one ∙ rests.is;
        left = rests.left;
        accepted =
            rests.accepted ∙ ap (λ points. (seen.accepted ++ points) ++ accepted_points requests more) (point_told request.wish reply)
            ∙ append_assoc seen.accepted (accepted_point request.wish reply) (accepted_points requests more);
      }
