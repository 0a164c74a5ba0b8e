-- Settlings come to the work of a query, and a walk is at its end exactly where all its parts are settled.
use Rattle.std.proofs.Common.{◌≡◌, ℕ, suc, inl, inr, List, [], ◌∷◌, refl, sym, ◌∙◌, ap, subst, arith, Bool, true, false, cond, ◌&&◌}
use Rattle.std.proofs.lemmas.Bool.{and_parts}
use Rattle.std.proofs.lemmas.List.Sums.{fold-append}
use Rattle.std.specs.Prelude.{Option, Some, None, is_none, is_some, fold, Contains}
use Rattle.std.specs.List.{AllByRecursion, list_all}
use Rattle.plan_schema.specs.declared.name.Name.{Name}
use Rattle.plan_schema.specs.Contents.{Contents}
use Rattle.planning_rules.specs.Bills.{parents}
use Rattle.planning_rules.specs.Plan.{Known, has_outcome}
use Rattle.planning_rules.proofs.Membership.{IsIn, in_contained, contained_in, all_at}
use Rattle.walk_rules.specs.Cells.{Cells, records}
use Rattle.walk_rules.specs.Works.{AreUpward, SettlingIsWork, WorkGoesOn, WorkEnds, SettledIsNotReady, NoneReadyIsSettled}
use Rattle.walk_rules.specs.Walks.{Parts, State, known_at, names_of, is_ready, frontier, IsSettled, is_known, is_blocked, take_in, Took, at_first, put, dropped, results_of, net_all, with_hits, is_empty, work_within}

-- where nothing was dropped, the results were all put
pub took_all : (cells : Cells) (most : ℕ) (start : State) (rs : List (Name × Known)) (d : ℕ) (s : State) → Took cells most start rs d s → d ≡ 0 → s ≡ fold (take_in cells most) start rs
took_all cells most start _ _ _ at_first e = refl
took_all cells most start _ _ _ (put rs d s r t) e = ap (λ x. take_in cells most x r) (took_all cells most start rs d s t e) ∙ sym (fold-append (take_in cells most) start rs (r ∷ []))
took_all cells most start _ _ _ (dropped rs d s r t) e = absurd (omega arith)

-- one settling of a frontier's results, with none dropped, is the netting of the frontier and then all hits
pub settling_is_work : (cells : Cells) (most : ℕ) (start middle : State) (d : ℕ) → Took cells most start (results_of cells start.parts) d middle → d ≡ 0 → with_hits cells middle ≡ with_hits cells (net_all cells most start)
settling_is_work cells most start middle d t e = ap (with_hits cells) (took_all cells most start (results_of cells start.parts) d middle t e)

-- one more round of a query's work
pub work_goes_on : (cells : Cells) (most rounds : ℕ) (s : State) → is_empty (frontier (records cells) (with_hits cells s).parts) ≡ false → work_within (suc rounds) cells most s ≡ work_within rounds cells most (net_all cells most (with_hits cells s))
work_goes_on cells most rounds s e = ap (λ b. cond b (with_hits cells s) (work_within rounds cells most (net_all cells most (with_hits cells s)))) e

pub work_ends : (cells : Cells) (most rounds : ℕ) (s : State) → is_empty (frontier (records cells) (with_hits cells s).parts) ≡ true → work_within (suc rounds) cells most s ≡ with_hits cells s
work_ends cells most rounds s e = ap (λ b. cond b (with_hits cells s) (work_within rounds cells most (net_all cells most (with_hits cells s)))) e

-- settled parts ----------------------------------------------------------------------------------------------------------------

some_not_none : {A : Type 0} (o : Option A) → is_some o ≡ true → is_none o ≡ true → ⊥
some_not_none None h k = let never : false ≡ true = h in cc
some_not_none (Some x) h k = let never : false ≡ true = k in cc

all_of : (f : Name → Bool) (p : Name) (ps : List Name) → IsIn p ps → list_all f ps ≡ true → f p ≡ true
all_of f p ps i h = all_at (λ q. f q ≡ true) p ps i (each ps h)
  where
    each : (qs : List Name) → list_all f qs ≡ true → AllByRecursion (λ q. f q ≡ true) qs
    each [] h = tt
    each (q ∷ qs) h = let two = and_parts (f q) (list_all f qs) h in (two.0, each qs two.1)

-- a settled part isn't ready
pub settled_not_ready : (c : Contents) (parts : Parts) (n : Name) → IsSettled c parts n → is_ready c parts n ≡ true → ⊥
settled_not_ready c parts _ (is_known n h) r = some_not_none (known_at parts n) h (and_parts (is_none (known_at parts n)) (list_all (λ p. has_outcome (known_at parts p)) (parents c n)) r).0
settled_not_ready c parts _ (is_blocked n p i lacks s) r =
    let all = (and_parts (is_none (known_at parts n)) (list_all (λ q. has_outcome (known_at parts q)) (parents c n)) r).1 in
    let has = all_of (λ q. has_outcome (known_at parts q)) p (parents c n) (contained_in_list (parents c n) p i) all in
    let never : true ≡ false = sym has ∙ lacks in cc
  where
    contained_in_list : (ns : List Name) (p : Name) → Contains ns p → IsIn p ns
    contained_in_list ns p h = in_contained ns p h

-- where not all pass, one doesn't
pub one_fails : (f : Name → Bool) (ps : List Name) → list_all f ps ≡ false → (p : Name) × IsIn p ps × (f p ≡ false)
one_fails f [] h = cc
one_fails f (p ∷ ps) h = by_cases (f p) refl (one_fails f ps) h
  where
    by_cases : (b : Bool) → f p ≡ b → (list_all f ps ≡ false → (q : Name) × IsIn q ps × (f q ≡ false)) → (b && list_all f ps) ≡ false → (q : Name) × IsIn q (p ∷ ps) × (f q ≡ false)
    by_cases false e again o = (p, inl refl, e)
    by_cases true e again o = let w = again o in (w.0, inr w.1, w.2)

-- where no part is ready, each is settled
pub all_settled : (c : Contents) (parts : Parts) (before ns : List Name) → AreUpward c before ns → ((p : Name) → IsIn p before → IsSettled c parts p) → AllByRecursion (λ n. is_ready c parts n ≡ false) ns
    → AllByRecursion (IsSettled c parts) ns
all_settled c parts before [] up settled none = tt
all_settled c parts before (n ∷ ns) up settled none =
    let here : IsSettled c parts n = by_known (known_at parts n) refl none.0 in
    (here, all_settled c parts (n ∷ before) ns up.1 (λ p i. among p i here) none.1)
  where
    among : (p : Name) → IsIn p (n ∷ before) → IsSettled c parts n → IsSettled c parts p
    among p (inl e) here = subst (IsSettled c parts) e here
    among p (inr i) here = settled p i

    by_known : (o : Option Known) → known_at parts n ≡ o → (is_none (known_at parts n) && list_all (λ p. has_outcome (known_at parts p)) (parents c n)) ≡ false → IsSettled c parts n
    by_known (Some x) e r = is_known n (ap is_some e)
    by_known None e r =
        let w = one_fails (λ p. has_outcome (known_at parts p)) (parents c n) (ap (λ o. is_none o && list_all (λ p. has_outcome (known_at parts p)) (parents c n)) (sym e) ∙ r) in
        is_blocked n w.0 (contained_in (parents c n) w.0 w.1) w.2 (settled w.0 (in_contained before w.0 (all_at (Contains before) w.0 (parents c n) w.1 up.0)))

pub settling_works : SettlingIsWork
settling_works cells most start middle t = settling_is_work cells most start middle 0 t refl

pub goes_on : WorkGoesOn
goes_on cells most rounds s e = work_goes_on cells most rounds s e

pub ends : WorkEnds
ends cells most rounds s e = work_ends cells most rounds s e

pub not_ready : SettledIsNotReady
not_ready c parts n s r = settled_not_ready c parts n s r

pub none_ready : NoneReadyIsSettled
none_ready c parts up none = all_settled c parts [] (names_of parts) up (λ p i. absurd i) none
