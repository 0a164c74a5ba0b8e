-- Where two contents have the same cells of names and of their ancestors, these have the same levels and plans.
use Rattle.std.proofs.Common.{◌≡◌, ℕ, zero, suc, ◌+◌, List, [], ◌∷◌, map, refl, sym, ◌∙◌, ap, arith, Bool, true, cond}
use Rattle.std.proofs.lemmas.Bool.{and_parts}
use Rattle.std.specs.Prelude.{Option, None}
use Rattle.std.specs.List.{list_all, AllByRecursion}
use Rattle.plan_schema.specs.declared.name.Name.{Name}
use Rattle.plan_schema.specs.Contents.{Contents}
use Rattle.planning_rules.specs.Bills.{ParentBill, bills_of, parents, longest_chain, above_all, level_within, level}
use Rattle.planning_rules.specs.Plan.{Known, has_outcome, released, plan_step, plan_within, plan}
use Rattle.planning_rules.proofs.PlanLaws.{step_local, plan_enough}
use Rattle.planning_rules.proofs.LevelLaws.{levels_same, level_enough}
use Rattle.walk_rules.specs.Steps.{Agree, PlanIsLocal}
use Rattle.walk_rules.proofs.Local.{bills_same, step_same, step_from_its_lists}

module _ (c d : Contents) (among : Name → Bool) (h : (n : Name) → among n ≡ true → Agree c d n × (list_all among (parents c n) ≡ true)) where
  parents_same : (n : Name) → among n ≡ true → parents c n ≡ parents d n
  parents_same n e = ap (map (λ bill. bill.parent)) (bills_same c d n (h n e).0.part_cell)

  -- one step in either contents
  step_both : (f : Name → Option Known) (n : Name) → among n ≡ true → plan_step f c n ≡ plan_step f d n
  step_both f n e =
      let same = parents_same n e in
      step_from_its_lists f c n
      ∙ (λ i. cond (list_all (λ p. has_outcome (f p)) (same i)) (step_same c d n (h n e).0 (map (λ p. released (f p)) (same i)) i) None)
      ∙ sym (step_from_its_lists f d n)

  each_bill : {V : Type 0} (f g : Name → V) → ((p : Name) → among p ≡ true → f p ≡ g p) → (bills : List ParentBill) → list_all among (map (λ bill. bill.parent) bills) ≡ true → AllByRecursion (λ bill. f bill.parent ≡ g bill.parent) bills
  each_bill f g same [] e = tt
  each_bill f g same (bill ∷ bills) e =
      let two = and_parts (among bill.parent) (list_all among (map (λ other. other.parent) bills)) e in
      (same bill.parent two.0, each_bill f g same bills two.1)

  plan_within_same : (k : ℕ) (n : Name) → among n ≡ true → plan_within k c n ≡ plan_within k d n
  plan_within_same zero n e = refl
  plan_within_same (suc k) n e =
      step_local (plan_within k c) (plan_within k d) c n (each_bill (plan_within k c) (plan_within k d) (plan_within_same k) (bills_of c n) (h n e).1)
      ∙ step_both (plan_within k d) n e

  level_within_same : (k : ℕ) (n : Name) → among n ≡ true → level_within k c n ≡ level_within k d n
  level_within_same zero n e = refl
  level_within_same (suc k) n e =
      levels_same (level_within k c) (level_within k d) (bills_of c n) (each_bill (level_within k c) (level_within k d) (level_within_same k) (bills_of c n) (h n e).1)
      ∙ ap (λ ps. above_all (map (level_within k d) ps)) (parents_same n e)

  pub plan_same : (n : Name) → among n ≡ true → plan c n ≡ plan d n
  plan_same n e =
      let most = longest_chain c + longest_chain d in
      sym (plan_enough c most (omega arith) n) ∙ plan_within_same most n e ∙ plan_enough d most (omega arith) n

  pub level_same : (n : Name) → among n ≡ true → level c n ≡ level d n
  level_same n e =
      let most = longest_chain c + longest_chain d in
      sym (level_enough c most (omega arith) n) ∙ level_within_same most n e ∙ level_enough d most (omega arith) n

pub plan_is_local : PlanIsLocal
plan_is_local c d among h n e = (plan_same c d among h n e, level_same c d among h n e)
