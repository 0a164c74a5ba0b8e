-- The history that a session alone comes to, where there is memory for each request: that of all its changes that aren't refused.
use Rattle.std.proofs.Common.{◌≡◌, ℕ, zero, suc, ◌+◌, ◌-◌, Bool, true, false, cond, List, [], ◌∷◌, ◌++◌, length, take, Option, Some, None, refl, sym, ap, subst, ◌∙◌, arith, length-append}
use Rattle.std.specs.Prelude.{is_none, slice_get, IfSome, count_by}
use Rattle.std.specs.List.{AllByRecursion}
use Rattle.std.proofs.lemmas.List.FromFn.{length-range_with_len}
use Rattle.std.proofs.lemmas.List.{take_all}
use Rattle.plan_schema.specs.declared.name.Name.{Name}
use Rattle.plan_schema.specs.declared.change.Entry.{Entry}
use Rattle.plan_schema.specs.declared.refusal.Refusal.{Refusal}
use Rattle.plan_schema.specs.Contents.{Contents}
use Rattle.command_words.specs.declared.reply.Reply.{Reply}
use Rattle.command_words.specs.declared.reply.Reply.TheVariants as replies
use Rattle.scenario_rules.specs.Journal.{IsLegal}
use Rattle.scenario_rules.specs.Refused.{refused}
use Rattle.session_rules.specs.Answers.{change_reply}
use Rattle.session_rules.specs.Requests.{Request, Wish, Makes, Asks, IsBad, user_after, guest}
use Rattle.session_rules.specs.Sessions.{AreReplies, IsReplyTo, point_after}
use Rattle.session_rules.specs.Runs.{accepted_point, accepted_points, accepted_entries, ArePinned}
use Rattle.sessions.specs.Serving.{HasAnswered}
use Rattle.desk_rounds.proofs.Tally.{count-cons}
use Rattle.response_program.specs.Desks.{session_of}
use Rattle.response_program.specs.Tried.{is_want, with_wish, entered_all}
use Rattle.response_program.proofs.Served.{some_is}
use Rattle.response_program.proofs.Shown.{no_more}

take_more : (entries : List Entry) (n : ℕ) (entry : Entry) → slice_get entries n ≡ Some entry → take (n + 1) entries ≡ take n entries ++ entry ∷ []
take_more [] n entry is = cc
take_more (first ∷ entries) zero entry is = ap (λ e. e ∷ []) (some_is is)
take_more (first ∷ entries) (suc n) entry is =
    let next : suc n + 1 ≡ suc (n + 1) = omega arith in ap (λ k. take k (first ∷ entries)) next ∙ ap (λ more. first ∷ more) (take_more entries n entry is)

-- a refusal that is told is one
is_refused : (point : ℕ) (refusal : Option Refusal) (reply : Reply) → change_reply point refusal ≡ Some reply → is_none refusal ≡ false
is_refused point None reply is = cc
is_refused point (Some refusal) reply is = refl

-- no reply is for want of memory
abbrev pub NoWant : List Reply → Type 0
NoWant given = AllByRecursion (λ reply. is_want reply ≡ false) given

one_want : (want : Bool) (rest : ℕ) → cond want 1 0 + rest ≡ 0 → (want ≡ false) × (rest ≡ 0)
one_want true rest is = absurd (omega (arith, is))
one_want false rest is = (refl, omega (arith, is))

pub no_wants : (given : List Reply) → count_by is_want given ≡ 0 → NoWant given
no_wants [] none = tt
no_wants (reply ∷ given) none =
    let both = one_want (is_want reply) (count_by is_want given) (sym (count-cons is_want reply given) ∙ none) in (both.0, no_wants given both.1)

module _ (contents : Contents) (entries : List Entry) (legal : IsLegal contents entries) (session floor : ℕ) where
  one_entered : (n last : ℕ) (user : Name) (line : ℕ) (wish : Wish) (reply : Reply) → IsReplyTo true contents entries session floor last user line wish reply
      → point_after (n + length (accepted_point wish reply)) reply ≡ n + length (accepted_point wish reply) → is_want reply ≡ false
      → with_wish contents session user line wish (take n entries) ≡ take (n + length (accepted_point wish reply)) entries
  one_entered n last user line (Makes change) (replies.Ok point) h pinned want =
      let entry : Entry = record { session = session; line = line; user = user; change = change } in
      let place : point - 1 ≡ n = omega (arith, pinned) in
      let at : slice_get entries n ≡ Some entry = subst (λ k. slice_get entries k ≡ Some entry) place h.entry.entry in
      let allowed : refused contents (take n entries) user change ≡ None =
      subst (λ o. IfSome o (λ e. refused contents (take n entries) e.user e.change ≡ None)) at (legal.accepted n) in
      ap (λ r. cond (is_none r) (take n entries ++ entry ∷ []) (take n entries)) allowed ∙ sym (take_more entries n entry at)
  one_entered n last user line (Makes change) (replies.Rows point lines) h pinned want = absurd h
  one_entered n last user line (Makes change) (replies.No point refusal) h pinned want =
      let same : point ≡ n = omega (arith, pinned) in
      let right : change_reply (length (take n entries)) (refused contents (take n entries) user change) ≡ Some (replies.No point refusal) =
      subst (λ k. change_reply (length (take k entries)) (refused contents (take k entries) user change) ≡ Some (replies.No point refusal)) same h.right in
      let barred = is_refused (length (take n entries)) (refused contents (take n entries) user change) (replies.No point refusal) right in
      ap (λ b. cond b (take n entries ++ record { session = session; line = line; user = user; change = change } ∷ []) (take n entries)) barred
      ∙ ap (λ k. take k entries) (sym (no_more n))
  one_entered n last user line (Makes change) (replies.Bad bad) h pinned want = absurd h
  one_entered n last user line (Makes change) replies.Mem h pinned want = cc
  one_entered n last user line (Asks command) reply h pinned want = ap (λ k. take k entries) (sym (no_more n))
  one_entered n last user line (IsBad bad) reply h pinned want = ap (λ k. take k entries) (sym (no_more n))

  all_entered : (n last : ℕ) (user : Name) (requests : List Request) (given : List Reply) → AreReplies true contents entries session floor last user requests given → ArePinned n requests given → NoWant given
      → entered_all contents session user requests (take n entries) ≡ take (n + length (accepted_points requests given)) entries
  all_entered n last user [] [] h pinned wants = ap (λ k. take k entries) (sym (no_more n))
  all_entered n last user [] (reply ∷ given) h pinned wants = absurd h
  all_entered n last user (request ∷ requests) [] h pinned wants = absurd h
  all_entered n last user (request ∷ requests) (reply ∷ given) h pinned wants =
      let here = accepted_point request.wish reply in
      let later = accepted_points requests given in
      let sum : n + length here + length later ≡ n + length (here ++ later) = (let both = length-append here later in omega (arith, both)) in
      ap (entered_all contents session (user_after user request.wish) requests) (one_entered n last user request.line request.wish reply h.0 pinned.0 wants.0)
      ∙ all_entered (n + length here) (point_after last reply) (user_after user request.wish) requests given h.1 pinned.1 wants.1 ∙ ap (λ k. take k entries) sum

-- a session with no entries before it
pub alone_entered : (contents : Contents) (entries : List Entry) (requests : List Request) (given : List Reply) → IsLegal contents entries → HasAnswered (session_of contents 1 []) entries requests given
    → count_by is_want given ≡ 0 → entries ≡ entered_all contents 1 guest requests []
alone_entered contents entries requests given legal h none =
    let points = accepted_points requests given in
    let made = accepted_entries 1 guest requests given in
    let many : length points ≡ length made = ap length h.numbered ∙ length-range_with_len _ (length made) in
    let all : length entries ≡ length made = ap length h.entered in
    let same : 0 + length points ≡ length entries = omega (arith, many, all) in
    sym (take_all (0 + length points) entries (omega (arith, same))) ∙ sym (all_entered contents entries legal 1 0 0 0 guest requests given h.legal h.pinned (no_wants given none))
