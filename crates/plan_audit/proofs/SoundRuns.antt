-- A legal run is judged to be legal.
use Rattle.std.proofs.Common.{◌≡◌, ℕ, suc, ◌+◌, ◌<◌, ◌≤◌, eqb, Bool, true, false, cond, List, [], ◌∷◌, ◌++◌, Some, None, Ok, Err, length, map, take, refl, sym, ap, ◌∙◌, subst, arith, append-nil, append_assoc, zero-add}
use Rattle.std.specs.Prelude.{IfSome, slice_get, count_by, ◌||◌, if◌then◌else◌}
use Rattle.std.specs.List.{list_any, flat_map, AllByRecursion}
use Rattle.std.proofs.lemmas.List.{length-map}
use Rattle.plan_schema.specs.declared.change.Entry.{Entry}
use Rattle.plan_schema.specs.Contents.{Contents}
use Rattle.command_words.specs.Forms.{is_within_limits}
use Rattle.command_words.specs.Replies.{reply_text}
use Rattle.scenario_rules.specs.Refused.{refused}
use Rattle.session_rules.specs.Requests.{requests_of}
use Rattle.session_rules.specs.Runs.{Desk, IsDesk, AreDesks, AreRounds, entries_of, accepted_points, accepted_at, accepted_in}
use Rattle.request_loop.specs.Serving.{heard_within, is_past_limit}
use Rattle.plan_audit.specs.Inputs.{heard}
use Rattle.plan_audit.specs.Judging.{none_seen, all_seen}
use Rattle.plan_audit.specs.Verdicts.{Pair, IsLong, behind_last, of_session, and_then_points, session_seen, round_seen, rounds_seen, number_or_later, first_refused, first_lost, judged_last, of_sessions, of_journal, audited}
use Rattle.plan_audit.specs.Laws.{pair_at, AreWithin, AreInForm, LegalIsJudgedLegal}
use Rattle.plan_audit.proofs.SeenRounds.{counted_next}
use Rattle.plan_audit.proofs.SoundReplies.{all_so}

-- sessions -----------------------------------------------------------------------------------------------------------------

module _ (base : Contents) (entries : List Entry) where
  session_so : (session floor ceiling : ℕ) (desk : Desk) → IsDesk base entries session floor ceiling desk → is_past_limit desk.input ≡ false → AllByRecursion (λ reply. is_within_limits reply ≡ true) desk.replies_given
      → session_seen base entries floor ceiling session (pair_at desk) ≡ Ok (accepted_points (requests_of desk.input) desk.replies_given)
  unfolding session_seen heard
  session_so session floor ceiling desk legal within short =
      let requests_are : heard desk.input ≡ requests_of desk.input = ap (λ b. if b then heard_within desk.input else requests_of desk.input) within in
      let text : desk.output ≡ flat_map reply_text desk.replies_given ++ [] = legal.legal.text ∙ sym (append-nil (flat_map reply_text desk.replies_given)) in
      let all = all_so base entries session floor ceiling (none_seen floor desk.output) (requests_of desk.input) desk.replies_given [] text legal.legal.legal legal.below short in
      ap (of_session session desk.input) (ap (all_seen base entries session floor ceiling (none_seen floor desk.output)) requests_are ∙ all.is)
      ∙ ap (λ b. if b then Err (IsLong session) else behind_last session all.next all.next.left) within
      ∙ ap (behind_last session all.next) all.left ∙ ap Ok all.accepted

  round_so : (floor ceiling session : ℕ) (desks : List Desk) → AreDesks base entries floor ceiling session desks → AllByRecursion (λ (pair : Pair). is_past_limit pair.input ≡ false) (map pair_at desks)
      → AllByRecursion (λ (desk : Desk). AllByRecursion (λ reply. is_within_limits reply ≡ true) desk.replies_given) desks
      → round_seen base entries floor ceiling session (map pair_at desks) ≡ Ok (accepted_at desks)
  unfolding round_seen
  round_so floor ceiling session [] legal within short = refl
  round_so floor ceiling session (desk ∷ desks) legal within short =
      let own = session_so session floor ceiling desk legal.0 within.0 short.0 in
      let more = round_so floor ceiling (session + 1) desks legal.1 within.1 short.1 in
      λ i. and_then_points (own i) (more i)

  rounds_so : (session : ℕ) (rounds : List (List Desk)) → AreRounds base [] entries session rounds → AreWithin (map (λ round. map pair_at round) rounds) → AreInForm rounds
      → rounds_seen base entries session (map (λ round. map pair_at round) rounds) ≡ Ok (accepted_in rounds)
  unfolding rounds_seen
  rounds_so session [] legal within short = refl
  rounds_so session (desks ∷ rounds) legal within short =
      let many : length (map pair_at desks) ≡ length desks = length-map desks pair_at in
      let floor = entries_of entries 0 session in
      let ceiling = entries_of entries 0 (session + length desks) in
      let here : AreDesks base entries floor ceiling session desks =
      subst (λ n. AreDesks base entries floor n session desks) (zero-add ceiling) (subst (λ n. AreDesks base entries n (0 + ceiling) session desks) (zero-add floor) legal.0) in
      let own = round_so floor ceiling session desks here within.0 short.0 in
      let more = rounds_so (session + length desks) rounds legal.1 within.1 short.1 in
      ap (λ n. and_then_points (round_seen base entries floor (entries_of entries 0 (session + n)) session (map pair_at desks)) (rounds_seen base entries (session + n) (map (λ round. map pair_at round) rounds))) many
      ∙ (λ i. and_then_points (own i) (more i))

  -- entries ----------------------------------------------------------------------------------------------------------------

  later_too : (done : List Entry) (entry : Entry) (more : List Entry) → ((k : ℕ) → IfSome (slice_get (entry ∷ more) k) (λ e. refused base (done ++ take k (entry ∷ more)) e.user e.change ≡ None))
      → (k : ℕ) → IfSome (slice_get more k) (λ e. refused base ((done ++ entry ∷ []) ++ take k more) e.user e.change ≡ None)
  later_too done entry more h k = subst (λ l. IfSome (slice_get more k) (λ e. refused base l e.user e.change ≡ None)) (sym (append_assoc done (entry ∷ []) (take k more))) (h (suc k))

  pub unrefused : (done more : List Entry) → ((k : ℕ) → IfSome (slice_get more k) (λ e. refused base (done ++ take k more) e.user e.change ≡ None)) → first_refused base done more ≡ None
  unfolding first_refused
  unrefused done [] h = refl
  unrefused done (entry ∷ more) h =
      let here : refused base done entry.user entry.change ≡ None = subst (λ l. refused base l entry.user entry.change ≡ None) (append-nil done) (h 0) in
      ap (λ r. number_or_later r (length done + 1) (first_refused base (done ++ entry ∷ []) more)) here ∙ unrefused (done ++ entry ∷ []) more (later_too done entry more h)

-- what is printed once is among the points
among : (points : List ℕ) (point : ℕ) → 1 ≤ count_by (λ p. eqb p point) points → list_any (λ p. eqb p point) points ≡ true
among [] point h = absurd (nothing h)
  where
    nothing : 1 ≤ 0 → ⊥
    nothing h = omega arith
among (p ∷ points) point h = by (eqb p point) (subst (λ n. 1 ≤ n) (counted_next (λ q. eqb q point) p points) h) (λ k. among points point k)
  where
    by : (b : Bool) → 1 ≤ cond b 1 0 + count_by (λ q. eqb q point) points → (1 ≤ count_by (λ q. eqb q point) points → list_any (λ q. eqb q point) points ≡ true) → (b || list_any (λ q. eqb q point) points) ≡ true
    by true h rest = refl
    by false h rest = rest (omega (arith, h))

none_lost : (points : List ℕ) (number : ℕ) (entries : List Entry) → ((k : ℕ) → k < length entries → 1 ≤ count_by (λ p. eqb p (number + k)) points) → first_lost points number entries ≡ None
unfolding first_lost
none_lost points number [] h = refl
none_lost points number (entry ∷ entries) h =
    let first : 0 < suc (length entries) = omega arith in
    let same : number + 0 ≡ number = omega arith in
    let here = among points number (subst (λ n. 1 ≤ count_by (λ p. eqb p n) points) same (h 0 first)) in
    ap (λ b. if b then first_lost points (number + 1) entries else Some entry) here
    ∙ none_lost points (number + 1) entries (λ k within.
    let next : number + suc k ≡ (number + 1) + k = omega arith in
    let less : suc k < suc (length entries) = omega (arith, within) in
    subst (λ n. 1 ≤ count_by (λ p. eqb p n) points) next (h (suc k) less))

pub legal_is_judged_legal : LegalIsJudgedLegal
unfolding audited
legal_is_judged_legal base entries desks run within short =
    let rounds = map (λ round. map pair_at round) desks in
    let journal = unrefused base entries [] entries run.history_is.accepted in
    let seen = rounds_so base entries 1 desks run.sessions within short in
    let lost = none_lost (accepted_in desks) 1 entries (λ k inside.
    let above : 0 < 1 + k = omega arith in
    let not_past : 1 + k ≤ length entries = omega (arith, inside) in
    let once = run.once (1 + k) above not_past in
    omega (arith, once)) in
    ap (λ number. of_journal number (of_sessions entries (rounds_seen base entries 1 rounds))) journal ∙ ap (of_sessions entries) seen ∙ ap judged_last lost
