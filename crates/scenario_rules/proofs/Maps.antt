-- Lists of pairs in the order of their keys, after an entry is put or taken away.
use Rattle.std.proofs.Common.{◌≡◌, suc, ◌+◌, ◌≤◌, List, [], ◌∷◌, length, refl, sym, ◌∙◌, ap, subst, Bool, true, false, cond, ◌&&◌, arith}
use Rattle.std.specs.Prelude.{Some, None, T, is_some}
use Rattle.std.specs.Map.{lookup, remove_entry}
use Rattle.std.specs.BTreeMap.{is_at, insert_entry}
use Rattle.std.specs.FinMap.{is_sorted, IsAntisymmetric}
use Rattle.std.specs.FinMap.Entries.{put, find, below_all, by_order, find-put, is_sorted-put, length-put}
use Rattle.std.specs.Ordering.{is_eq, is_lt, match_ordering}
use Rattle.std.specs.declared.cmp.Ordering.{Ordering}
use Rattle.std.specs.declared.cmp.Ordering.TheVariants.{Less, Equal, Greater}
use Rattle.std.specs.Cmp.{IsTotalOrder, tied_itself}

pub holds : (b : Bool) → b ≡ true → T b
holds b e = subst T (sym e) tt

pub is_so : (b : Bool) → T b → b ≡ true
is_so true h = refl
is_so false h = absurd h

pub both_parts : (a b : Bool) → (a && b) ≡ true → (a ≡ true) × (b ≡ true)
both_parts true b h = (refl, h)
both_parts false b h = cc

pub both_so : (a b : Bool) → a ≡ true → b ≡ true → (a && b) ≡ true
both_so a b h k = λ i. h i && k i

pub is_equal : (r : Ordering) → is_eq r ≡ true → r ≡ Equal
is_equal Less h = cc
is_equal Equal h = refl
is_equal Greater h = cc

-- a key below all is not equal to the first
pub less_apart : (r : Ordering) → is_lt r ≡ true → is_eq r ≡ false
less_apart Less h = refl
less_apart Equal h = cc
less_apart Greater h = refl

module _ {K X : Type 0} (R : K → K → Ordering) where
  insert_is_put : (k : K) (v : X) (es : List (K × X)) → insert_entry R es k v ≡ put R k v es
  insert_is_put k v [] = refl
  insert_is_put k v (e ∷ es) =
      let rest = insert_is_put k v es in
      elim (R k e.0) as (λ r. match_ordering r ((k, v) ∷ e ∷ es) ((e.0, v) ∷ es) (e ∷ insert_entry R es k v) ≡ by_order r ((k, v) ∷ e ∷ es) ((e.0, v) ∷ es) (e ∷ put R k v es)) [
        | Less ↦ refl
        | Equal ↦ refl
        | Greater ↦ ap (λ xs. e ∷ xs) rest
      ]

  pub lookup_is_find : (q : K) (es : List (K × X)) → lookup (is_at (R q)) es ≡ find R q es
  lookup_is_find q [] = refl
  lookup_is_find q (e ∷ es) = λ i. cond (is_eq (R q e.0)) (Some e.1) (lookup_is_find q es i)

  -- a key below all is not found
  pub lookup_below : (q : K) (es : List (K × X)) → below_all R q es ≡ true → lookup (is_at (R q)) es ≡ None
  lookup_below q [] h = refl
  lookup_below q (e ∷ es) h =
      let two = both_parts (is_lt (R q e.0)) (below_all R q es) h in
      ap (λ b. cond b (Some e.1) (lookup (is_at (R q)) es)) (less_apart (R q e.0) two.0) ∙ lookup_below q es two.1

  pub below_remove : (x : K) (test : K → Bool) (es : List (K × X)) → below_all R x es ≡ true → below_all R x (remove_entry test es) ≡ true
  below_remove x test [] h = refl
  below_remove x test (e ∷ es) h =
      let two = both_parts (is_lt (R x e.0)) (below_all R x es) h in
      let rest = both_so (is_lt (R x e.0)) (below_all R x (remove_entry test es)) two.0 (below_remove x test es two.1) in
      elim (test e.0) as (λ b. below_all R x (cond b es (e ∷ remove_entry test es)) ≡ true) [ true ↦ two.1 | false ↦ rest ]

  pub length_remove : (test : K → Bool) (es : List (K × X)) → length (remove_entry test es) ≤ length es
  length_remove test [] = omega arith
  length_remove test (e ∷ es) =
      let rest = length_remove test es in
      elim (test e.0) as (λ b. length (cond b es (e ∷ remove_entry test es)) ≤ suc (length es)) [ true ↦ omega arith | false ↦ omega arith ]

  pub sorted_remove : (test : K → Bool) (es : List (K × X)) → is_sorted R es ≡ true → is_sorted R (remove_entry test es) ≡ true
  sorted_remove test [] h = refl
  sorted_remove test (e ∷ es) h =
      let two = both_parts (below_all R e.0 es) (is_sorted R es) h in
      let rest = both_so (below_all R e.0 (remove_entry test es)) (is_sorted R (remove_entry test es)) (below_remove e.0 test es two.0) (sorted_remove test es two.1) in
      elim (test e.0) as (λ b. is_sorted R (cond b es (e ∷ remove_entry test es)) ≡ true) [ true ↦ two.1 | false ↦ rest ]

-- two keys that differ one way differ the other way
pub apart_flips : {K : Type 0} {R : K → K → Ordering} (o : IsTotalOrder R) → IsAntisymmetric R → (a b : K) → is_eq (R a b) ≡ false → is_eq (R b a) ≡ false
apart_flips {K} {R} o exact a b h = by_cases (is_eq (R b a)) refl
  where
    by_cases : (t : Bool) → is_eq (R b a) ≡ t → is_eq (R b a) ≡ false
    by_cases false e = e
    by_cases true e =
        let same : b ≡ a = exact b a (is_equal (R b a) e) in
        let here : is_eq (R a b) ≡ true = ap (λ k. is_eq (R a k)) same ∙ ap is_eq (tied_itself o a) in
        let wrong : false ≡ true = sym h ∙ here in cc

module _ {K X : Type 0} {R : K → K → Ordering} (o : IsTotalOrder R) where
  pub lookup_insert : (q k : K) (v : X) (es : List (K × X)) → lookup (is_at (R q)) (insert_entry R es k v) ≡ cond (is_eq (R q k)) (Some v) (lookup (is_at (R q)) es)
  lookup_insert q k v es =
      lookup_is_find R q (insert_entry R es k v) ∙ ap (find R q) (insert_is_put R k v es) ∙ find-put R o q k v es ∙ ap (cond (is_eq (R q k)) (Some v)) (sym (lookup_is_find R q es))

  pub lookup_insert_same : (k : K) (v : X) (es : List (K × X)) → lookup (is_at (R k)) (insert_entry R es k v) ≡ Some v
  lookup_insert_same k v es = lookup_insert k k v es ∙ ap (λ r. cond (is_eq r) (Some v) (lookup (is_at (R k)) es)) (tied_itself o k)

  pub lookup_insert_other : (q k : K) (v : X) (es : List (K × X)) → is_eq (R q k) ≡ false → lookup (is_at (R q)) (insert_entry R es k v) ≡ lookup (is_at (R q)) es
  lookup_insert_other q k v es h = lookup_insert q k v es ∙ ap (λ b. cond b (Some v) (lookup (is_at (R q)) es)) h

  pub sorted_insert : (k : K) (v : X) (es : List (K × X)) → is_sorted R es ≡ true → is_sorted R (insert_entry R es k v) ≡ true
  sorted_insert k v es h = ap (is_sorted R) (insert_is_put R k v es) ∙ is_so (is_sorted R (put R k v es)) (is_sorted-put R o k v es (holds (is_sorted R es) h))

  pub length_insert : (k : K) (v : X) (es : List (K × X)) → is_sorted R es ≡ true → length (insert_entry R es k v) ≡ cond (is_some (lookup (is_at (R k)) es)) (length es) (length es + 1)
  length_insert k v es h =
      ap length (insert_is_put R k v es) ∙ length-put R o k v es (holds (is_sorted R es) h) ∙ ap (λ x. cond (is_some x) (length es) (length es + 1)) (sym (lookup_is_find R k es))

  module _ (exact : IsAntisymmetric R) where
    pub lookup_remove_other : (q k : K) (es : List (K × X)) → is_eq (R q k) ≡ false → lookup (is_at (R q)) (remove_entry (is_at (R k)) es) ≡ lookup (is_at (R q)) es
    lookup_remove_other q k [] h = refl
    lookup_remove_other q k (e ∷ es) h = by_cases (lookup_remove_other q k es h) (is_eq (R k e.0)) refl
      where
        by_cases : lookup (is_at (R q)) (remove_entry (is_at (R k)) es) ≡ lookup (is_at (R q)) es → (t : Bool) → is_eq (R k e.0) ≡ t
            → lookup (is_at (R q)) (cond t es (e ∷ remove_entry (is_at (R k)) es)) ≡ cond (is_eq (R q e.0)) (Some e.1) (lookup (is_at (R q)) es)
        by_cases rest false t = λ i. cond (is_eq (R q e.0)) (Some e.1) (rest i)
        by_cases rest true t =
            let same : k ≡ e.0 = exact k e.0 (is_equal (R k e.0) t) in
            let apart : is_eq (R q e.0) ≡ false = ap (λ x. is_eq (R q x)) (sym same) ∙ h in
            sym (ap (λ b. cond b (Some e.1) (lookup (is_at (R q)) es)) apart)

    pub lookup_remove_same : (k : K) (es : List (K × X)) → is_sorted R es ≡ true → lookup (is_at (R k)) (remove_entry (is_at (R k)) es) ≡ None
    lookup_remove_same k [] h = refl
    lookup_remove_same k (e ∷ es) h =
        let two = both_parts (below_all R e.0 es) (is_sorted R es) h in
        by_cases (lookup_remove_same k es two.1) two.0 (is_eq (R k e.0)) refl
      where
        by_cases : lookup (is_at (R k)) (remove_entry (is_at (R k)) es) ≡ None → below_all R e.0 es ≡ true → (t : Bool) → is_eq (R k e.0) ≡ t
            → lookup (is_at (R k)) (cond t es (e ∷ remove_entry (is_at (R k)) es)) ≡ None
        by_cases rest below true t =
            let same : k ≡ e.0 = exact k e.0 (is_equal (R k e.0) t) in
            ap (λ x. lookup (is_at (R x)) es) same ∙ lookup_below R e.0 es below
        by_cases rest below false t = ap (λ b. cond b (Some e.1) (lookup (is_at (R k)) (remove_entry (is_at (R k)) es))) t ∙ rest
