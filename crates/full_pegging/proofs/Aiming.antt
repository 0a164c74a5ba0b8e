-- What the pegs of a part of a walk are for.
use Rattle.std.proofs.Common.{◌≡◌, ℕ, zero, suc, ◌+◌, ◌*◌, ◌≤◌, inl, inr, List, [], ◌∷◌, ◌++◌, map, length, take, refl, sym, ◌∙◌, ap, subst, arith, true}
use Rattle.std.proofs.lemmas.List.Sums.{sum_by-le, sum_by-take-le}
use Rattle.std.proofs.lemmas.List.Elements.{All-from_recursion}
use Rattle.std.proofs.lemmas.Grind.{flat_map-append}
use Rattle.std.specs.Prelude.{Option, Some, None, nat_lt, sum, Contains}
use Rattle.std.specs.List.{AllByRecursion, range_with_len, flat_map}
use Rattle.plan_schema.specs.declared.name.Name.{Name}
use Rattle.plan_schema.specs.Contents.{Contents}
use Rattle.planning_rules.specs.Bills.{ParentBill, parents, bills_of}
use Rattle.planning_rules.specs.Days.{start_of, days_of}
use Rattle.planning_rules.specs.Netting.{Lists, limit}
use Rattle.planning_rules.specs.Plan.{Known, Planned, Large, plan, released, has_outcome, asked_by, asked_by_parents, demands_on}
use Rattle.planning_rules.specs.Pegs.{Peg, FromDemand, FromParent, above_zero, peg_qty, pegs_from}
use Rattle.planning_rules.specs.Refused.{in_reach}
use Rattle.planning_rules.proofs.Membership.{IsIn, contained_in, in_contained}
use Rattle.walk_rules.specs.Cells.{records}
use Rattle.walk_rules.specs.Walks.{names_of, known_at}
use Rattle.walk_rules.proofs.PutRight.{IsRelease, plan_release}
use Rattle.plan_jobs.proofs.Gathering.{parent_reached}
use Rattle.plan_walk.specs.View.{View}
use Rattle.part_pegs.specs.Planned.{IsPlannedPart}
use Rattle.full_pegging.specs.declared.target.Target.{Target}
use Rattle.full_pegging.specs.Ends.{IsTarget, AreTargets, pegs_on, pegs_of}
use Rattle.full_pegging.specs.Walking.{IsParent, CanAim, CanTrace}
use Rattle.full_pegging.proofs.Everywhere.{all_append, all_mapped, all_images, all_kept, all_weaker}

-- what one more peg is for
pub one_more : (c : Contents) (names : List Name) (n : Name) (pegs : List (ℕ × Peg)) (ts : List Target) (qs : List ℕ) (peg : ℕ × Peg) (target : Target) (qty : ℕ)
    → AreTargets c names n pegs ts qs → IsTarget c names n peg target → qty ≡ peg_qty peg.1 → AreTargets c names n (pegs ++ peg ∷ []) (ts ++ target ∷ []) (qs ++ qty ∷ [])
one_more c names n [] [] [] peg target qty are is many = (is, many, tt)
one_more c names n (p ∷ pegs) (t ∷ ts) (q ∷ qs) peg target qty are is many = (are.0, are.1, one_more c names n pegs ts qs peg target qty are.2 is many)
one_more c names n [] [] (q ∷ qs) peg target qty are is many = absurd are
one_more c names n [] (t ∷ ts) qs peg target qty are is many = absurd are
one_more c names n (p ∷ pegs) [] qs peg target qty are is many = absurd are
one_more c names n (p ∷ pegs) (t ∷ ts) [] peg target qty are is many = absurd are

-- the pegs of one more day
range_more : (a t : ℕ) → range_with_len a (t + 1) ≡ range_with_len a t ++ (a + t) ∷ []
range_more a zero = let place : a ≡ a + 0 = omega arith in λ i. place i ∷ []
range_more a (suc t) =
    let more : suc t + 1 ≡ suc (t + 1) = omega arith in
    let place : (a + 1) + t ≡ a + suc t = omega arith in
    ap (range_with_len a) more ∙ ap (λ ns. a ∷ ns) (range_more (a + 1) t ∙ λ i. range_with_len (a + 1) t ++ place i ∷ [])

with_none : {A : Type 0} (xs : List A) → xs ++ [] ≡ xs
with_none [] = refl
with_none (x ∷ xs) = ap (λ ys. x ∷ ys) (with_none xs)

pub pegs_more : (c : Contents) (n : Name) (t : ℕ) → pegs_of c n (t + 1) ≡ pegs_of c n t ++ pegs_on c n t
pegs_more c n t =
    ap (flat_map (pegs_on c n)) (range_more 0 t)
    ∙ flat_map-append (pegs_on c n) (range_with_len 0 t) ((0 + t) ∷ [])
    ∙ (let same : 0 + t ≡ t = omega arith in λ i. pegs_of c n t ++ with_none (pegs_on c n (same i)) i)

-- what holds of the parents of a name holds of the pegs that come from them
each_bill : (Q : Name → Type 0) (bills : List ParentBill) → ((p : Name) → IsIn p (map (λ bill. bill.parent) bills) → Q p) → AllByRecursion (λ bill. Q bill.parent) bills
each_bill Q [] h = tt
each_bill Q (bill ∷ bills) h = (h bill.parent (inl refl), each_bill Q bills (λ p i. h p (inr i)))

abbrev pub OfParent : (Name → Type 0) → Peg → Type 0
OfParent Q (FromDemand order qty) = Unit {0}
OfParent Q (FromParent parent qty) = Q parent

pub of_parents : (Q : Name → Type 0) (plans : Name → Option Known) (c : Contents) (n : Name) (t : ℕ) → ((p : Name) → IsIn p (parents c n) → Q p) → AllByRecursion (OfParent Q) (pegs_from plans c n t)
of_parents Q plans c n t h =
    all_append (OfParent Q) _ _
    (all_images (λ (pair : Name × ℕ). FromDemand pair.0 pair.1) (OfParent Q) (λ pair. tt) (above_zero (demands_on c n t)))
    (all_mapped (λ (pair : Name × ℕ). FromParent pair.0 pair.1) (λ pair. Q pair.0) (OfParent Q) (λ pair q. q) (above_zero (asked_by_parents plans c n t))
    (all_kept (λ (pair : Name × ℕ). nat_lt 0 pair.1) (λ pair. Q pair.0) (λ pair. Q pair.0) (λ pair q _. q) (asked_by_parents plans c n t)
    (all_mapped (asked_by plans (start_of c) t) (λ bill. Q bill.parent) (λ (pair : Name × ℕ). Q pair.0) (λ bill q. q) (bills_of c n) (each_bill Q (bills_of c n) h))))

planned_at : (o : Option Known) → has_outcome o ≡ true → (x : Lists) × (o ≡ Some (Planned x))
planned_at None h = absurd (let never : ⊥ = cc in never)
planned_at (Some (Planned x)) h = (x, refl)
planned_at (Some Large) h = absurd (let never : ⊥ = cc in never)

pub small_sum : (xs : List ℕ) (days : ℕ) → length xs ≡ days → days ≤ 400 → AllByRecursion (λ qty. qty ≤ limit) xs → (t : ℕ) → sum (take t xs) ≤ 400 * limit
small_sum xs days long few small t =
    let part = sum_by-take-le (λ (x : ℕ). x) xs t in
    let all = sum_by-le (λ (x : ℕ). x) limit xs (All-from_recursion (λ qty. qty ≤ limit) xs small) in
    omega (arith, part, all, long, few)

module _ (w : View) (traced : CanTrace w) where
  -- a part of the walk is planned
  pub part_planned : (n : Name) → Contains (names_of w.parts) n → IsPlannedPart (records w.job.cells) (known_at w.parts) n
  part_planned n there = record { asked = traced.0; planned = traced.1.planned; reached = (traced.1.names.members n).0 there }

  pub parent_there : (n p : Name) → Contains (names_of w.parts) n → IsIn p (parents (records w.job.cells) n) → Contains (names_of w.parts) p
  parent_there n p there i =
      let c = records w.job.cells in
      (traced.1.names.members p).1 (contained_in (in_reach c traced.0) p (parent_reached c traced.0 n p (in_contained (in_reach c traced.0) n ((traced.1.names.members n).0 there)) i))

  pub known_there : (n : Name) → Contains (names_of w.parts) n → known_at w.parts n ≡ plan (records w.job.cells) n
  known_there n there = traced.1.planned.right n ((traced.1.names.members n).0 there)

  pub outcome_there : (n : Name) → Contains (names_of w.parts) n → has_outcome (known_at w.parts n) ≡ true
  outcome_there n there = traced.1.planned.outcomes n ((traced.1.names.members n).0 there)

  pub released_there : (n : Name) → Contains (names_of w.parts) n → IsRelease (days_of (records w.job.cells)) (released (known_at w.parts n))
  released_there n there =
      let c = records w.job.cells in
      let o = planned_at (known_at w.parts n) (outcome_there n there) in
      subst (λ known. IsRelease (days_of c) (released known)) (sym o.1) (plan_release c n o.0 (sym (known_there n there) ∙ o.1))

  pub is_parent : (n p : Name) (t : ℕ) → Contains (names_of w.parts) n → IsIn p (parents (records w.job.cells) n) → days_of (records w.job.cells) ≤ 400 → t ≤ days_of (records w.job.cells) → IsParent (records w.job.cells) w.parts t p
  is_parent n p t there i few low =
      let here = parent_there n p there i in
      let release = released_there p here in
      let long = release.0 in
      record {
        there = here;
        known = known_there p here;
        outcome = outcome_there p here;
        days = omega (arith, long, low);
        fits = let most = small_sum (released (known_at w.parts p)) (days_of (records w.job.cells)) release.0 few release.1 t in omega (arith, most);
      }

  -- so the pegs of its days can be followed
  pub pegs_aim : (n : Name) (t : ℕ) → Contains (names_of w.parts) n → days_of (records w.job.cells) ≤ 400 → t ≤ days_of (records w.job.cells)
      → AllByRecursion (CanAim (records w.job.cells) w.parts t) (pegs_from (plan (records w.job.cells)) (records w.job.cells) n t)
  pegs_aim n t there few low =
      let c = records w.job.cells in
      all_weaker (OfParent (IsParent c w.parts t)) (CanAim c w.parts t) same (pegs_from (plan c) c n t) (of_parents (IsParent c w.parts t) (plan c) c n t (λ p i. is_parent n p t there i few low))
    where
      same : (peg : Peg) → OfParent (IsParent (records w.job.cells) w.parts t) peg → CanAim (records w.job.cells) w.parts t peg
      same (FromDemand order qty) h = tt
      same (FromParent parent qty) h = h

-- and where it has been added
pub grown : (c : Contents) (names : List Name) (n : Name) (pegs : List (ℕ × Peg)) (ts more_ts : List Target) (qs more_qs : List ℕ) (peg : ℕ × Peg) (target : Target) (qty : ℕ)
    → AreTargets c names n pegs ts qs → more_ts ≡ ts ++ target ∷ [] → more_qs ≡ qs ++ qty ∷ [] → IsTarget c names n peg target → qty ≡ peg_qty peg.1 → AreTargets c names n (pegs ++ peg ∷ []) more_ts more_qs
grown c names n pegs ts more_ts qs more_qs peg target qty are more many is same =
    subst (λ (list : List Target). AreTargets c names n (pegs ++ peg ∷ []) list more_qs) (sym more)
    (subst (λ list. AreTargets c names n (pegs ++ peg ∷ []) (ts ++ target ∷ []) list) (sym many) (one_more c names n pegs ts qs peg target qty are is same))
