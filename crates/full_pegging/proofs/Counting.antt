-- Units counted under the keys of ends are counted at these ends.
use Rattle.std.proofs.Common.{◌≡◌, ℕ, ◌+◌, List, [], ◌∷◌, refl, sym, ◌∙◌, ap, arith, Bool, true, false, cond, ◌&&◌}
use Rattle.std.proofs.lemmas.Bool.Decides.{nat_tests}
use Rattle.std.specs.Prelude.{Some, nat_lt, unwrap_or}
use Rattle.std.specs.Map.{lookup}
use Rattle.std.specs.BTreeMap.{is_at, insert_entry}
use Rattle.std.specs.Ordering.{is_eq, ordering_then}
use Rattle.std.specs.Cmp.{tied_itself}
use Rattle.std.specs.declared.cmp.Ordering.{Ordering}
use Rattle.std.specs.declared.cmp.Ordering.TheVariants.{Less, Equal, Greater}
use Rattle.plan_schema.specs.declared.key.Key.{Key}
use Rattle.plan_schema.specs.Key.{name_cmp, key_cmp}
use Rattle.scenario_rules.proofs.Maps.{lookup_insert}
use Rattle.scenario_rules.proofs.Keys.{key_total, key_exact}
use Rattle.record_versions.proofs.Same.{is_same}
use Rattle.planning_rules.specs.Trace.{End, AtDemand, Surplus, same_end}
use Rattle.full_pegging.specs.Shares.{end_key, counted_at, shares_by}

one_order : (a : Ordering) → is_eq (ordering_then a Equal) ≡ is_eq a
one_order Less = refl
one_order Equal = refl
one_order Greater = refl

two_orders : (a b : Ordering) → is_eq (ordering_then a (ordering_then b Equal)) ≡ (is_eq a && is_eq b)
two_orders Less b = refl
two_orders Equal b = one_order b
two_orders Greater b = refl

-- two ends are one exactly where their keys are
key_tells : (end other : End) → is_eq (key_cmp (end_key end) (end_key other)) ≡ same_end end other
key_tells (AtDemand part order) (AtDemand other name) = two_orders (name_cmp part other) (name_cmp order name)
key_tells (AtDemand part order) (Surplus other) = refl
key_tells (Surplus part) (AtDemand other name) = refl
key_tells (Surplus part) (Surplus other) = one_order (name_cmp part other)

pub same_itself : (end : End) → same_end end end ≡ true
same_itself end = sym (key_tells end end) ∙ ap is_eq (tied_itself key_total (end_key end))

one_key : (end other : End) → same_end end other ≡ true → end_key end ≡ end_key other
one_key end other same = key_exact (end_key end) (end_key other) (is_same (key_cmp (end_key end) (end_key other)) (key_tells end other ∙ same))

-- more units under the key of an end are more at that end alone
pub counted_more : (counts : List (Key × ℕ)) (end other : End) (qty : ℕ)
    → counted_at (insert_entry key_cmp counts (end_key other) (counted_at counts other + qty)) end ≡ counted_at counts end + cond (same_end end other) qty 0
counted_more counts end other qty =
    ap (λ found. unwrap_or found 0) (lookup_insert key_total (end_key end) (end_key other) (counted_at counts other + qty) counts)
    ∙ ap (λ b. unwrap_or (cond b (Some (counted_at counts other + qty)) (lookup (is_at (key_cmp (end_key end))) counts)) 0) (key_tells end other)
    ∙ by_same (same_end end other) refl
  where
    by_same : (b : Bool) → same_end end other ≡ b → unwrap_or (cond b (Some (counted_at counts other + qty)) (lookup (is_at (key_cmp (end_key end))) counts)) 0 ≡ counted_at counts end + cond b qty 0
    by_same true same = ap (λ key. unwrap_or (lookup (is_at (key_cmp key)) counts) 0 + qty) (sym (one_key end other same))
    by_same false same = omega arith

-- the share of one end
pub none_at : (count : End → ℕ) (end : End) → count end ≡ 0 → [] ≡ shares_by count (end ∷ [])
none_at count end none = sym (ap (λ (qty : ℕ). cond (nat_lt 0 qty) ((end, qty) ∷ []) []) none)

pub some_at : (count : End → ℕ) (end : End) (qty : ℕ) → qty ≡ count end → (qty ≡ 0 → ⊥) → (end, qty) ∷ [] ≡ shares_by count (end ∷ [])
some_at count end qty is some =
    let above : nat_lt 0 qty ≡ true = grind (arith, nat_tests) in
    sym (ap (λ b. cond b ((end, qty) ∷ []) []) above) ∙ ap (λ (n : ℕ). cond (nat_lt 0 n) ((end, n) ∷ []) []) is
