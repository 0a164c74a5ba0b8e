-- The parents of a name are among all parents, which are no more than the rows.
use Rattle.std.proofs.Common.{◌≡◌, ℕ, suc, ◌≤◌, ◌⊎◌, inl, inr, List, [], ◌∷◌, length, map, refl, sym, subst, arith, true, false, cond}
use Rattle.std.specs.Prelude.{Option, Some, None}
use Rattle.std.specs.List.{cons_option, AllByRecursion}
use Rattle.plan_schema.specs.declared.name.Name.{Name}
use Rattle.plan_schema.specs.declared.key.Key.{Key}
use Rattle.plan_schema.specs.declared.key.Key.TheVariants as keys
use Rattle.plan_schema.specs.declared.key.Record.{Record}
use Rattle.plan_schema.specs.declared.key.Record.TheVariants as records
use Rattle.plan_schema.specs.Key.{name_eq}
use Rattle.plan_schema.specs.Contents.{Contents}
use Rattle.planning_rules.specs.Bills.{ParentBill, bill_in, bills_of, parents, parent_in, all_parents}
use Rattle.planning_rules.proofs.Membership.{IsIn, all_in}

bill_parent : (n : Name) (row : Key × Record) → (bill_in n row ≡ None) ⊎ ((bill : ParentBill) × (bill_in n row ≡ Some bill) × (parent_in row ≡ Some bill.parent))
bill_parent n (keys.Bill p m, records.Bill per span) =
    let one : ParentBill = record { parent = p; per = per; span = span } in
    elim (name_eq m n) as (λ t. (cond t (Some one) None ≡ None) ⊎ ((bill : ParentBill) × (cond t (Some one) None ≡ Some bill) × (Some p ≡ Some bill.parent))) [
      | true ↦ inr (one, refl, refl)
      | false ↦ inl refl
    ]
bill_parent n _ = inl refl

drop_parent : (Q : Name → Type 0) (o : Option Name) (ps : List Name) → AllByRecursion Q (cons_option o ps) → AllByRecursion Q ps
drop_parent Q None ps h = h
drop_parent Q (Some p) ps h = h.1

-- what holds of all parents holds of those of n
pub each_parent : (Q : Name → Type 0) (n : Name) (c : Contents) → AllByRecursion Q (all_parents c) → AllByRecursion (λ bill. Q bill.parent) (bills_of c n)
each_parent Q n [] h = tt
each_parent Q n (row ∷ rows) h =
    elim (bill_parent n row) [
      | inl none ↦ subst (λ o. AllByRecursion (λ bill. Q bill.parent) (cons_option o (bills_of rows n))) (sym none) (each_parent Q n rows (drop_parent Q (parent_in row) (all_parents rows) h))
      | inr some ↦
          let here = subst (λ o. AllByRecursion Q (cons_option o (all_parents rows))) some.2 h in
          subst (λ o. AllByRecursion (λ bill. Q bill.parent) (cons_option o (bills_of rows n))) (sym some.1) (here.0, each_parent Q n rows here.1)
    ]

pub few_parents : (c : Contents) → length (all_parents c) ≤ length c
few_parents [] = omega arith
few_parents (row ∷ rows) = let rest = few_parents rows in by_cases (parent_in row) (all_parents rows) (length rows) rest
  where
    by_cases : (o : Option Name) (ps : List Name) (m : ℕ) → length ps ≤ m → length (cons_option o ps) ≤ suc m
    by_cases None ps m l = omega arith
    by_cases (Some p) ps m l = omega arith

-- a parent is among all parents
pub in_all : (c : Contents) (n p : Name) → IsIn p (parents c n) → IsIn p (all_parents c)
in_all c n p i = found (bills_of c n) (each_parent (λ q. IsIn q (all_parents c)) n c (all_in (all_parents c))) i
  where
    found : (bills : List ParentBill) → AllByRecursion (λ bill. IsIn bill.parent (all_parents c)) bills → IsIn p (map (λ bill. bill.parent) bills) → IsIn p (all_parents c)
    found [] h i = absurd i
    found (bill ∷ bills) h (inl e) = subst (λ q. IsIn q (all_parents c)) e h.0
    found (bill ∷ bills) h (inr i) = found bills h.1 i
