-- How many pairs have a key that passes a test, after one is put or taken away: of contents, how many parts and how many records.
use Rattle.std.proofs.Common.{◌≡◌, ◌⊎◌, inl, inr, ℕ, suc, ◌+◌, List, [], ◌∷◌, length, refl, sym, ◌∙◌, ap, Bool, true, false, cond, arith}
use Rattle.std.specs.Prelude.{Option, Some, None, is_some, count_by}
use Rattle.std.proofs.lemmas.List.Sums.{sum_by-cons}
use Rattle.std.specs.Map.{lookup, remove_entry}
use Rattle.std.specs.BTreeMap.{is_at, insert_entry}
use Rattle.std.specs.FinMap.{is_sorted, IsAntisymmetric}
use Rattle.std.specs.Ordering.{is_eq, match_ordering}
use Rattle.std.specs.declared.cmp.Ordering.{Ordering}
use Rattle.std.specs.declared.cmp.Ordering.TheVariants.{Less, Equal, Greater}
use Rattle.std.specs.Cmp.{IsTotalOrder}
use Rattle.scenario_rules.proofs.Maps.{is_equal, length_insert}
use Rattle.scenario_rules.proofs.Keys.{key_total, key_exact}
use Rattle.scenario_rules.specs.World.{changed}
use Rattle.plan_schema.specs.declared.key.Key.{Key}
use Rattle.plan_schema.specs.declared.key.Record.{Record}
use Rattle.plan_schema.specs.Key.{key_cmp}
use Rattle.plan_schema.specs.Base.{is_part_key, part_count}
use Rattle.plan_schema.specs.Contents.{Contents, record_at, is_ordered, with_record}

module _ {K X : Type 0} (R : K → K → Ordering) (test : K → Bool) where
  abbrev passing : List (K × X) → ℕ
  passing es = count_by (λ e. test e.0) es

  passing-cons : (e : K × X) (es : List (K × X)) → passing (e ∷ es) ≡ cond (test e.0) 1 0 + passing es
  passing-cons e es = sum_by-cons (λ (x : K × X). cond (test x.0) 1 0) e es

  -- the second list has the pairs of the first, of which one may have another value
  record AreAsMany (es new : List (K × X)) : Type 0 where
    many : length new ≡ length es
    pass : passing new ≡ passing es

  -- the second list has one more
  record IsOneMore (k : K) (es new : List (K × X)) : Type 0 where
    many : length new ≡ length es + 1
    pass : passing new ≡ passing es + cond (test k) 1 0

  insert_either : (k : K) (v : X) (es : List (K × X)) → AreAsMany es (insert_entry R es k v) ⊎ IsOneMore k es (insert_entry R es k v)
  insert_either k v [] = inr (record { many = refl; pass = refl })
  insert_either k v (e ∷ es) = by_cases (insert_either k v es) (R k e.0)
    where
      by_cases : AreAsMany es (insert_entry R es k v) ⊎ IsOneMore k es (insert_entry R es k v) → (r : Ordering)
          → AreAsMany (e ∷ es) (match_ordering r ((k, v) ∷ e ∷ es) ((e.0, v) ∷ es) (e ∷ insert_entry R es k v)) ⊎ IsOneMore k (e ∷ es) (match_ordering r ((k, v) ∷ e ∷ es) ((e.0, v) ∷ es) (e ∷ insert_entry R es k v))
      by_cases later Less = inr (record { many = omega arith; pass = omega (arith, passing-cons (k, v) (e ∷ es)) })
      by_cases later Equal = inl (record { many = refl; pass = passing-cons (e.0, v) es ∙ sym (passing-cons e es) })
      by_cases (inl p) Greater = inl (record { many = ap suc p.many; pass = omega (arith, passing-cons e (insert_entry R es k v), passing-cons e es, p.pass) })
      by_cases (inr p) Greater = inr (record { many = omega (arith, p.many); pass = omega (arith, passing-cons e (insert_entry R es k v), passing-cons e es, p.pass) })

  pub passing_put : IsTotalOrder R → (k : K) (v : X) (es : List (K × X)) → is_sorted R es ≡ true
      → passing (insert_entry R es k v) ≡ cond (is_some (lookup (is_at (R k)) es)) (passing es) (passing es + cond (test k) 1 0)
  passing_put o k v es h = by_cases (insert_either k v es) (is_some (lookup (is_at (R k)) es)) (length_insert o k v es h)
    where
      by_cases : AreAsMany es (insert_entry R es k v) ⊎ IsOneMore k es (insert_entry R es k v) → (t : Bool) → length (insert_entry R es k v) ≡ cond t (length es) (length es + 1)
          → passing (insert_entry R es k v) ≡ cond t (passing es) (passing es + cond (test k) 1 0)
      by_cases (inl p) true n = p.pass
      by_cases (inl p) false n = absurd (omega (arith, p.many, n))
      by_cases (inr p) true n = absurd (omega (arith, p.many, n))
      by_cases (inr p) false n = p.pass

  pub passing_taken : IsAntisymmetric R → (k : K) (es : List (K × X))
      → passing (remove_entry (is_at (R k)) es) + cond (is_some (lookup (is_at (R k)) es)) (cond (test k) 1 0) 0 ≡ passing es
  passing_taken exact k [] = refl
  passing_taken exact k (e ∷ es) = by_cases (passing_taken exact k es) (is_eq (R k e.0)) refl
    where
      by_cases : passing (remove_entry (is_at (R k)) es) + cond (is_some (lookup (is_at (R k)) es)) (cond (test k) 1 0) 0 ≡ passing es → (t : Bool) → is_eq (R k e.0) ≡ t
          → passing (cond t es (e ∷ remove_entry (is_at (R k)) es)) + cond (is_some (cond t (Some e.1) (lookup (is_at (R k)) es))) (cond (test k) 1 0) 0 ≡ passing (e ∷ es)
      by_cases later true t =
          let same : ◌≡◌ {A = ℕ} (cond (test k) 1 0) (cond (test e.0) 1 0) = ap (λ q. cond (test q) 1 0) (exact k e.0 (is_equal (R k e.0) t)) in
          omega (arith, passing-cons e es, same)
      by_cases later false t = omega (arith, passing-cons e (remove_entry (is_at (R k)) es), passing-cons e es, later)

-- all pairs pass where all keys do
all_pass : {K X : Type 0} (es : List (K × X)) → count_by (λ e. true) es ≡ length es
all_pass [] = refl
all_pass {K = K} {X = X} (e ∷ es) = omega (arith, sum_by-cons (λ (x : K × X). 1) e es, all_pass es)

-- one change of contents, counted ----------------------------------------------------------------------------------------------

-- one where something is there that passes a test
abbrev one_if : Bool → Bool → ℕ
one_if there test = cond there (cond test 1 0) 0

-- what was under the key and passes no longer counts, and what is there now does
counted_change : (test : Key → Bool) (c : Contents) (k : Key) (new : Option Record) → is_ordered c ≡ true
    → count_by (λ e. test e.0) (changed c k new) + one_if (is_some (record_at c k)) (test k) ≡ count_by (λ e. test e.0) c + one_if (is_some new) (test k)
counted_change test c k (Some v) h = by_cases (is_some (record_at c k)) (passing_put key_cmp test key_total k v c h)
  where
    by_cases : (t : Bool) → count_by (λ e. test e.0) (with_record c k v) ≡ cond t (count_by (λ e. test e.0) c) (count_by (λ e. test e.0) c + cond (test k) 1 0)
        → count_by (λ e. test e.0) (with_record c k v) + one_if t (test k) ≡ count_by (λ e. test e.0) c + cond (test k) 1 0
    by_cases true p = omega (arith, p)
    by_cases false p = omega (arith, p)
counted_change test c k None h = omega (arith, passing_taken key_cmp test key_exact k c)

pub parts_change : (c : Contents) (k : Key) (new : Option Record) → is_ordered c ≡ true
    → part_count (changed c k new) + one_if (is_some (record_at c k)) (is_part_key k) ≡ part_count c + one_if (is_some new) (is_part_key k)
parts_change c k new h = counted_change is_part_key c k new h

pub length_change : (c : Contents) (k : Key) (new : Option Record) → is_ordered c ≡ true
    → length (changed c k new) + cond (is_some (record_at c k)) 1 0 ≡ length c + cond (is_some new) 1 0
length_change c k new h = omega (arith, counted_change (λ key. true) c k new h, all_pass (changed c k new), all_pass c)
