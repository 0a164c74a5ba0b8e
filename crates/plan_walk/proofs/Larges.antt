-- The parts of a walk that are too large.
use Rattle.std.proofs.Common.{◌≡◌, ℕ, ◌+◌, inl, inr, List, [], ◌∷◌, ◌++◌, take, refl, sym, ◌∙◌, ap, Bool, true, false, cond, ◌&&◌, add-one}
use Rattle.std.proofs.lemmas.List.Sums.{fold-append}
use Rattle.std.specs.Prelude.{Option, Some, None, slice_get, is_some, fold, filter}
use Rattle.std.specs.List.{list_all}
use Rattle.plan_schema.specs.declared.name.Name.{Name}
use Rattle.plan_schema.specs.declared.key.Key.TheVariants as keys
use Rattle.plan_schema.specs.Contents.{Contents, record_at}
use Rattle.planning_rules.specs.Bills.{parents}
use Rattle.planning_rules.specs.Plan.{Known, plan, has_outcome, known_from, input_of, gross_of}
use Rattle.planning_rules.specs.Refused.{earlier, least_name, is_large}
use Rattle.planning_rules.proofs.Membership.{IsIn, in_contained}
use Rattle.planning_rules.proofs.PlanLaws.{plan_is_step}
use Rattle.walk_rules.specs.Rights.{AreRight}
use Rattle.walk_rules.specs.Walks.{Parts, known_at, IsSettled, is_known, is_blocked}
use Rattle.plan_walk.proofs.LookUps.{filter_more, append_none}

and_false : (a b : Bool) → b ≡ false → (a && b) ≡ false
and_false true b e = e
and_false false b e = refl

one_out : (f : Name → Bool) (p : Name) (ps : List Name) → IsIn p ps → f p ≡ false → list_all f ps ≡ false
one_out f p [] i h = absurd i
one_out f p (q ∷ qs) (inl e) h = ap (λ b. b && list_all f qs) (ap f e ∙ h)
one_out f p (q ∷ qs) (inr i) h = and_false (f q) (list_all f qs) (one_out f p qs i h)

module _ (c : Contents) (parts : Parts) (right : AreRight c parts) where
  no_outcome : (p : Name) → has_outcome (known_at parts p) ≡ false → (known_at parts p ≡ None → plan c p ≡ None) → has_outcome (plan c p) ≡ false
  no_outcome p lacks none = by_cases (known_at parts p) refl
    where
      by_cases : (o : Option Known) → known_at parts p ≡ o → has_outcome (plan c p) ≡ false
      by_cases None e = ap has_outcome (none e)
      by_cases (Some known) e = ap has_outcome (right p known e ∙ sym e) ∙ lacks

  -- a settled part of which nothing is known has no plan
  settled_none : (n : Name) → IsSettled c parts n → known_at parts n ≡ None → plan c n ≡ None
  settled_none _ (is_known n h) none = let never : false ≡ true = sym (ap is_some none) ∙ h in absurd (let no_way : ⊥ = cc in no_way)
  settled_none _ (is_blocked n p i lacks s) none =
      let fails : list_all (λ q. has_outcome (plan c q)) (parents c n) ≡ false =
      one_out (λ q. has_outcome (plan c q)) p (parents c n) (in_contained (parents c n) p i) (no_outcome p lacks (settled_none p s)) in
      plan_is_step c n ∙ ap (λ b. cond b (known_from (input_of c n (gross_of (plan c) c n) (record_at c (keys.Part n)))) None) fails

  -- what is known of a settled part tells whether it is too large
  pub large_same : (n : Name) → IsSettled c parts n → is_large (plan c n) ≡ is_large (known_at parts n)
  large_same n s = by_cases (known_at parts n) refl
    where
      by_cases : (o : Option Known) → known_at parts n ≡ o → is_large (plan c n) ≡ is_large (known_at parts n)
      by_cases None e = ap is_large (settled_none n s e ∙ sym e)
      by_cases (Some known) e = ap is_large (right n known e ∙ sym e)

  -- and whether it has an outcome
  pub outcome_same : (n : Name) → IsSettled c parts n → has_outcome (plan c n) ≡ has_outcome (known_at parts n)
  outcome_same n s = by_cases (known_at parts n) refl
    where
      by_cases : (o : Option Known) → known_at parts n ≡ o → has_outcome (plan c n) ≡ has_outcome (known_at parts n)
      by_cases None e = ap has_outcome (settled_none n s e ∙ sym e)
      by_cases (Some known) e = ap has_outcome (right n known e ∙ sym e)

-- the least name so far that passes
pub least_more : (test : Name → Bool) (ns : List Name) (i : ℕ) (n : Name) (least now : Option Name) → slice_get ns i ≡ Some n → least ≡ least_name test (take i ns) → (b : Bool) → test n ≡ b
    → now ≡ cond b (earlier least n) least → now ≡ least_name test (take (i + 1) ns)
least_more test ns i n least now at is true e new =
    new ∙ ap (λ o. earlier o n) is ∙ sym (fold-append earlier None (filter test (take i ns)) (n ∷ []))
    ∙ ap (fold earlier None) (sym (filter_more test ns i n at ∙ (λ j. filter test (take i ns) ++ cond (e j) (n ∷ []) [])))
    ∙ ap (λ k. least_name test (take k ns)) (sym (add-one i))
least_more test ns i n least now at is false e new =
    new ∙ is
    ∙ ap (fold earlier None) (sym (filter_more test ns i n at ∙ (λ j. filter test (take i ns) ++ cond (e j) (n ∷ []) []) ∙ append_none (filter test (take i ns))))
    ∙ ap (λ k. least_name test (take k ns)) (sym (add-one i))
