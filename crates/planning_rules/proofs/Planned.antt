-- A name that is planned has a level.
use Rattle.std.proofs.Common.{◌≡◌, ℕ, zero, suc, List, [], ◌∷◌, map, max, refl, sym, ◌∙◌, ap, true, false, cond}
use Rattle.std.specs.Prelude.{Option, Some, None, is_some, unwrap_or}
use Rattle.std.specs.List.{list_all}
use Rattle.plan_schema.specs.declared.name.Name.{Name}
use Rattle.plan_schema.specs.declared.key.Key.TheVariants as keys
use Rattle.plan_schema.specs.Contents.{Contents, record_at}
use Rattle.planning_rules.specs.Bills.{parents, longest_chain, above_all, level_within, level}
use Rattle.planning_rules.specs.Plan.{Known, has_outcome, gross_of, input_of, known_from, plan_within, plan}
use Rattle.planning_rules.specs.Laws.{NoLevelIsNoPlan}
use Rattle.planning_rules.proofs.PlanLaws.{cond_some, both_true, outcome_some}

-- levels above names that all have one
some_above : (o : Option ℕ) (os : List (Option ℕ)) → is_some o ≡ true → is_some (above_all os) ≡ true → is_some (above_all (o ∷ os)) ≡ true
some_above None os h k = cc
some_above (Some l) os h k = ap (λ b. is_some (cond b (Some (max (suc l) (unwrap_or (above_all os) 0))) None)) k

all_above : (f : Name → Option Known) (g : Name → Option ℕ) → ((p : Name) → is_some (f p) ≡ true → is_some (g p) ≡ true) → (ps : List Name) → list_all (λ p. has_outcome (f p)) ps ≡ true
    → is_some (above_all (map g ps)) ≡ true
all_above f g more [] h = refl
all_above f g more (p ∷ ps) h =
    let two = both_true (has_outcome (f p)) (list_all (λ q. has_outcome (f q)) ps) h in
    some_above (g p) (map g ps) (more p (outcome_some (f p) two.0)) (all_above f g more ps two.1)

planned_has_level : (c : Contents) (k : ℕ) (n : Name) → is_some (plan_within k c n) ≡ true → is_some (level_within k c n) ≡ true
planned_has_level c zero n h = h
planned_has_level c (suc k) n h =
    all_above (plan_within k c) (level_within k c) (planned_has_level c k) (parents c n)
    (cond_some (list_all (λ p. has_outcome (plan_within k c p)) (parents c n)) (known_from (input_of c n (gross_of (plan_within k c) c n) (record_at c (keys.Part n)))) h)

pub no_level_is_no_plan : NoLevelIsNoPlan
no_level_is_no_plan c n none = by_cases (plan c n) refl
  where
    by_cases : (o : Option Known) → plan c n ≡ o → o ≡ None
    by_cases None e = refl
    by_cases (Some x) e =
        let has : is_some (level c n) ≡ true = planned_has_level c (longest_chain c) n (ap is_some e) in
        let wrong : false ≡ true = sym (ap is_some none) ∙ has in cc
