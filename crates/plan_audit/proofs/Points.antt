-- The points of sessions, one behind the other.
use Rattle.std.proofs.Common.{◌≡◌, ℕ, ◌+◌, ◌≤◌, ◌<◌, suc, List, [], ◌∷◌, ◌++◌, length, drop, Option, Some, Result, Ok, Err, refl, sym, ap, ◌∙◌, subst, arith, append-nil, append_assoc, get_or, add-one, zero-add, inl, inr, ◌&&◌, leb, ltb, cond, true, false}
use Rattle.std.specs.Prelude.{◌⊎◌, slice_get}
use Rattle.std.proofs.Math.ListN.{set}
use Rattle.std.proofs.Math.Seq.{drop-cons}
use Rattle.std.proofs.lemmas.List.{nil_from_length, length-drop, drop-set-lt}
use Rattle.std.proofs.lemmas.List.Sums.{count_by-le-length, sum_by-append}
use Rattle.std.proofs.lemmas.Bool.Decides.{nat_tests}
use Rattle.std.proofs.lemmas.Option.{slice_get_within, get_or_from_slice_get}
use Rattle.byte_lines.specs.Desks.{desk_count}
use Rattle.scenario_rules.specs.Journal.{AreSound, AreAccepted}
use Rattle.plan_audit.proofs.SeenRounds.{fewer_entries, counted_next}
use Rattle.plan_schema.specs.declared.change.Entry.{Entry}
use Rattle.plan_schema.specs.Contents.{Contents}
use Rattle.byte_lines.specs.declared.rounds.Desk.{Desk}
use Rattle.session_rules.specs.Runs.{entries_of}
use Rattle.plan_audit.specs.declared.rounds.RunFault.{RunFault}
use Rattle.plan_audit.specs.declared.rounds.RunFault.TheVariants as run
use Rattle.plan_audit.specs.declared.session.SessionFault.{SessionFault}
use Rattle.plan_audit.specs.declared.session.SessionFault.TheVariants as session
use Rattle.plan_audit.specs.Verdicts.{Pair, Fault, and_then_points, session_seen, round_seen, rounds_seen}
use Rattle.plan_audit.specs.Cases.{Terms, AreTerms}
use Rattle.plan_audit.specs.Sessions.{IsSessionFault}
use Rattle.plan_audit.specs.Rounds.{AreTold, AreRoundsTold, IsRunFault, ArePoints, run_fault}

-- the fault of a session is one of the run
pub session_fault : (t : Terms) (pair : Pair) (fault : SessionFault) → IsSessionFault t pair fault → IsRunFault (session_seen t.base t.entries t.floor t.ceiling t.session pair) (run_fault t.session fault)
session_fault t pair session.Input h = tt
session_fault t pair session.Output h = tt
session_fault t pair session.Memory h = tt
session_fault t pair session.Limit h = h
session_fault t pair (session.Breaks line rule) h = h

-- a fault of the first is the fault of both
pub fault_first : (first second : Result (List ℕ) Fault) (fault : RunFault) → IsRunFault first fault → IsRunFault (and_then_points first second) fault
fault_first first second run.Read h = tt
fault_first first second run.Memory h = tt
fault_first first second (run.Limit number) h = ap (λ r. and_then_points r second) h
fault_first first second (run.Breaks number line rule) h = ap (λ r. and_then_points r second) h

-- the first has points, and then comes the second
pub points_then : (first second : Result (List ℕ) Fault) (before between after : List ℕ) (r : Result (Unit {0}) RunFault) → ArePoints first before between (Ok tt) → ArePoints second between after r → ArePoints (and_then_points first second) before after r
points_then first second before between after (Ok done) h k =
    (h.0 ++ k.0, (λ i. and_then_points (h.1 i) (k.1 i)), k.2 ∙ ap (λ points. points ++ k.0) h.2 ∙ append_assoc before h.0 k.0)
points_then first second before between after (Err run.Read) h k = tt
points_then first second before between after (Err run.Memory) h k = tt
points_then first second before between after (Err (run.Limit number)) h k = λ i. and_then_points (h.1 i) (k i)
points_then first second before between after (Err (run.Breaks number line rule)) h k = λ i. and_then_points (h.1 i) (k i)

module _ {S K : Type 0} (left : S → Option (List ℕ)) (written : K → Option (List ℕ)) (base : Contents) (entries : List Entry) where
  module _ (floor ceiling session : ℕ) where
    -- no desk is left
    pub no_desks : (desks : List (Desk S K)) (pairs : List Pair) (points : List ℕ) → desks ≡ [] → AreTold left written desks pairs → ArePoints (round_seen base entries floor ceiling session pairs) points points (Ok tt)
    unfolding round_seen
    no_desks [] [] points none told = ([], refl, sym (append-nil points))
    no_desks [] (pair ∷ pairs) points none told = absurd told
    no_desks (desk ∷ desks) pairs points none told = let no : ⊥ = cc in absurd no

    -- a desk, and then the others
    pub desk_fault : (all more : List (Desk S K)) (desk : Desk S K) (pairs : List Pair) (fault : RunFault) → all ≡ desk ∷ more → AreTold left written all pairs
        → ((pair : Pair) → left desk.source ≡ Some pair.input → written desk.sink ≡ Some pair.output → IsRunFault (session_seen base entries floor ceiling session pair) fault) → IsRunFault (round_seen base entries floor ceiling session pairs) fault
    unfolding round_seen
    desk_fault all more desk [] fault is told first = absurd (subst (λ (ds : List (Desk S K)). AreTold left written ds []) is told)
    desk_fault all more desk (pair ∷ pairs) fault is told first =
        let t = subst (λ (ds : List (Desk S K)). AreTold left written ds (pair ∷ pairs)) is told in
        fault_first (session_seen base entries floor ceiling session pair) (round_seen base entries floor ceiling (session + 1) pairs) fault (first pair t.0 t.1)

    pub desk_then : (all more : List (Desk S K)) (desk : Desk S K) (pairs : List Pair) (before between after : List ℕ) (r : Result (Unit {0}) RunFault) → all ≡ desk ∷ more → AreTold left written all pairs
        → ((pair : Pair) → left desk.source ≡ Some pair.input → written desk.sink ≡ Some pair.output → ArePoints (session_seen base entries floor ceiling session pair) before between (Ok tt))
        → ((rest : List Pair) → AreTold left written more rest → ArePoints (round_seen base entries floor ceiling (session + 1) rest) between after r) → ArePoints (round_seen base entries floor ceiling session pairs) before after r
    unfolding round_seen
    desk_then all more desk [] before between after r is told first later = absurd (subst (λ (ds : List (Desk S K)). AreTold left written ds []) is told)
    desk_then all more desk (pair ∷ pairs) before between after r is told first later =
        let t = subst (λ (ds : List (Desk S K)). AreTold left written ds (pair ∷ pairs)) is told in
        points_then (session_seen base entries floor ceiling session pair) (round_seen base entries floor ceiling (session + 1) pairs) before between after r (first pair t.0 t.1) (later pairs t.2)

  -- as many pairs as desks
  pub as_many : (desks : List (Desk S K)) (pairs : List Pair) → AreTold left written desks pairs → length pairs ≡ length desks
  as_many [] [] told = refl
  as_many [] (pair ∷ pairs) told = absurd told
  as_many (desk ∷ desks) [] told = absurd told
  as_many (desk ∷ desks) (pair ∷ pairs) told = ap suc (as_many desks pairs told.2)

  module _ (session : ℕ) where
    pub no_rounds : (rounds : List (List (Desk S K))) (pairs : List (List Pair)) (points : List ℕ) → rounds ≡ [] → AreRoundsTold left written rounds pairs → ArePoints (rounds_seen base entries session pairs) points points (Ok tt)
    unfolding rounds_seen
    no_rounds [] [] points none told = ([], refl, sym (append-nil points))
    no_rounds [] (pair ∷ pairs) points none told = absurd told
    no_rounds (desk ∷ desks) pairs points none told = let no : ⊥ = cc in absurd no

    pub round_fault : (all more : List (List (Desk S K))) (desks : List (Desk S K)) (pairs : List (List Pair)) (fault : RunFault) → all ≡ desks ∷ more → AreRoundsTold left written all pairs
        → ((round : List Pair) → AreTold left written desks round → IsRunFault (round_seen base entries (entries_of entries 0 session) (entries_of entries 0 (session + length desks)) session round) fault) → IsRunFault (rounds_seen base entries session pairs) fault
    unfolding rounds_seen
    round_fault all more desks [] fault is told first = absurd (subst (λ (rs : List (List (Desk S K))). AreRoundsTold left written rs []) is told)
    round_fault all more desks (round ∷ pairs) fault is told first =
        let t = subst (λ (rs : List (List (Desk S K))). AreRoundsTold left written rs (round ∷ pairs)) is told in
        let many = as_many desks round t.0 in
        fault_first (round_seen base entries (entries_of entries 0 session) (entries_of entries 0 (session + length round)) session round) (rounds_seen base entries (session + length round) pairs) fault
        (subst (λ n. IsRunFault (round_seen base entries (entries_of entries 0 session) (entries_of entries 0 (session + n)) session round) fault) (sym many) (first round t.0))

    pub round_then : (all more : List (List (Desk S K))) (desks : List (Desk S K)) (pairs : List (List Pair)) (before between after : List ℕ) (r : Result (Unit {0}) RunFault) → all ≡ desks ∷ more → AreRoundsTold left written all pairs
        → ((round : List Pair) → AreTold left written desks round → ArePoints (round_seen base entries (entries_of entries 0 session) (entries_of entries 0 (session + length desks)) session round) before between (Ok tt))
        → ((rest : List (List Pair)) → AreRoundsTold left written more rest → ArePoints (rounds_seen base entries (session + length desks) rest) between after r) → ArePoints (rounds_seen base entries session pairs) before after r
    unfolding rounds_seen
    round_then all more desks [] before between after r is told first later = absurd (subst (λ (rs : List (List (Desk S K))). AreRoundsTold left written rs []) is told)
    round_then all more desks (round ∷ pairs) before between after r is told first later =
        let t = subst (λ (rs : List (List (Desk S K))). AreRoundsTold left written rs (round ∷ pairs)) is told in
        let many = as_many desks round t.0 in
        points_then (round_seen base entries (entries_of entries 0 session) (entries_of entries 0 (session + length round)) session round) (rounds_seen base entries (session + length round) pairs) before between after r
        (subst (λ n. ArePoints (round_seen base entries (entries_of entries 0 session) (entries_of entries 0 (session + n)) session round) before between (Ok tt)) (sym many) (first round t.0))
        (subst (λ n. ArePoints (rounds_seen base entries (session + n) pairs) between after r) (sym many) (later pairs t.1))

-- a list from a place on
pub nothing_left : {A : Type 0} (n : ℕ) (xs : List A) → length xs ≤ n → drop n xs ≡ []
nothing_left n xs few = nil_from_length (drop n xs) (let long = length-drop n xs in omega (arith, long, few))

pub one_left : {A : Type 0} (n : ℕ) (xs : List A) (x : A) → n < length xs → drop n xs ≡ get_or xs n x ∷ drop (n + 1) xs
one_left n xs x within = drop-cons xs n x within ∙ (λ i. get_or xs n x ∷ drop (sym (add-one n) i) xs)

pub later_left : {A : Type 0} (n : ℕ) (xs : List A) (x : A) → drop (n + 1) (set xs n x) ≡ drop (n + 1) xs
later_left n xs x = drop-set-lt (n + 1) xs n x (omega arith)

-- how many desks there are from a round on
pub desks_left : {D : Type 0} (rounds : List (List D)) (desks : List D) (at : ℕ) → slice_get rounds at ≡ Some desks → (drop at rounds ≡ desks ∷ drop (at + 1) rounds) × (desk_count (drop at rounds) ≡ length desks + desk_count (drop (at + 1) rounds))
desks_left rounds desks at is =
    let within = slice_get_within rounds at desks is in
    let front : drop at rounds ≡ desks ∷ drop (at + 1) rounds = one_left at rounds desks within ∙ ap (λ ds. ds ∷ drop (at + 1) rounds) (get_or_from_slice_get rounds at desks desks is) in
    (front, ap desk_count front ∙ sum_by-append length (desks ∷ []) (drop (at + 1) rounds) ∙ ap (λ n. n + desk_count (drop (at + 1) rounds)) (zero-add (length desks)))

-- the terms of another session or round
pub terms_at : (t : Terms) (number : ℕ) → AreTerms t → AreTerms (record t { session = number })
terms_at t number h = record { sound = h.sound; accepted = h.accepted; low = h.low; within = h.within }

pub round_terms : (base : Contents) (entries : List Entry) (number from end floor ceiling : ℕ) → AreSound entries → AreAccepted base entries → from ≤ end → floor ≡ entries_of entries 0 from → ceiling ≡ entries_of entries 0 end
    → AreTerms (record { base = base; entries = entries; session = number; floor = floor; ceiling = ceiling })
round_terms base entries number from end floor ceiling sound accepted less low high =
    let fewer = fewer_entries entries from end less in
    let most = count_by-le-length (λ (entry : Entry). leb 0 entry.session && ltb entry.session end) entries in
    record { sound = sound; accepted = accepted; low = omega (arith, fewer, low, high); within = omega (arith, most, high) }

-- an entry more is looked at
module _ (entries : List Entry) (place session : ℕ) (entry : Entry) (within : place < length entries) (is : entry ≡ get_or entries place entry) where
  next_counted : entries_of (drop place entries) 0 session ≡ cond (leb 0 entry.session && ltb entry.session session) 1 0 + entries_of (drop (place + 1) entries) 0 session
  next_counted =
      ap (λ es. entries_of es 0 session) (one_left place entries entry within ∙ ap (λ e. e ∷ drop (place + 1) entries) (sym is))
      ∙ counted_next (λ (e : Entry). leb 0 e.session && ltb e.session session) entry (drop (place + 1) entries)

  pub counted_one : entry.session < session → entries_of (drop place entries) 0 session ≡ 1 + entries_of (drop (place + 1) entries) 0 session
  counted_one before =
      let low : leb 0 entry.session ≡ true = grind (arith, nat_tests) in
      let high : ltb entry.session session ≡ true = grind (arith, nat_tests) in
      next_counted ∙ (λ i. cond (low i && high i) 1 0 + entries_of (drop (place + 1) entries) 0 session)

  pub counted_none : session ≤ entry.session → entries_of (drop place entries) 0 session ≡ 0 + entries_of (drop (place + 1) entries) 0 session
  counted_none behind =
      let low : leb 0 entry.session ≡ true = grind (arith, nat_tests) in
      let high : ltb entry.session session ≡ false = grind (arith, nat_tests) in
      next_counted ∙ (λ i. cond (low i && high i) 1 0 + entries_of (drop (place + 1) entries) 0 session)
