-- The least name of those that pass a test.
use Rattle.std.proofs.Common.{◌≡◌, inl, inr, List, [], ◌∷◌, refl, sym, ◌∙◌, ap, subst, Bool, true, false, cond}
use Rattle.std.specs.Prelude.{Option, Some, None, fold, filter}
use Rattle.std.specs.List.{AllByRecursion}
use Rattle.std.specs.Ordering.{is_lt, ordering_reverse}
use Rattle.std.specs.declared.cmp.Ordering.{Ordering}
use Rattle.std.specs.declared.cmp.Ordering.TheVariants.{Less, Equal, Greater}
use Rattle.std.specs.Cmp.{IsTotalOrder, tied_itself}
use Rattle.std.specs.Cmp.Lexicographic.{nat_list_cmp_total}
use Rattle.plan_schema.specs.declared.name.Name.{Name}
use Rattle.plan_schema.specs.Key.{name_cmp}
use Rattle.planning_rules.specs.Refused.{earlier, least_name}
use Rattle.planning_rules.specs.Laws.{IsLeastPassing, IsLeastOf, LeastNameIsLeast}
use Rattle.planning_rules.proofs.Membership.{IsIn, in_contained, contained_in, in_kept, kept_in, all_at}

-- where b doesn't precede a, nor c b, c doesn't precede a
not_before : {K : Type 0} {R : K → K → Ordering} (o : IsTotalOrder R) (a b c : K) → is_lt (R b a) ≡ false → is_lt (R c b) ≡ false → is_lt (R c a) ≡ false
not_before {K} {R} o a b c h k = by_cases (R c a) refl (R a b) refl
  where
    by_cases : (x : Ordering) → R c a ≡ x → (y : Ordering) → R a b ≡ y → is_lt x ≡ false
    by_cases Equal e y f = refl
    by_cases Greater e y f = refl
    by_cases Less e Less f = let less : R c b ≡ Less = o.trans c a b e f in let wrong : is_lt (R c b) ≡ true = ap is_lt less in cc
    by_cases Less e Equal f =
        let after : R a c ≡ Greater = o.antisymm a c ∙ ap ordering_reverse e in
        let less : R c b ≡ Less = o.antisymm c b ∙ ap ordering_reverse (sym (o.congr a b c f) ∙ after) in
        let wrong : is_lt (R c b) ≡ true = ap is_lt less in cc
    by_cases Less e Greater f =
        let less : R b a ≡ Less = o.antisymm b a ∙ ap ordering_reverse f in
        let wrong : is_lt (R b a) ≡ true = ap is_lt less in cc

-- of two, the second doesn't precede one that precedes it
one_way : {K : Type 0} {R : K → K → Ordering} (o : IsTotalOrder R) (a b : K) → is_lt (R a b) ≡ true → is_lt (R b a) ≡ false
one_way {K} {R} o a b h = by_cases (R a b) refl h
  where
    by_cases : (x : Ordering) → R a b ≡ x → is_lt x ≡ true → is_lt (R b a) ≡ false
    by_cases Less e h = ap is_lt (o.antisymm b a ∙ ap ordering_reverse e)
    by_cases Equal e h = cc
    by_cases Greater e h = cc

-- the least of a name and of more: which it is, that it is one of them, and that none precedes it
record IsFirst (m : Name) (ns : List Name) (found : Option Name) : Type 0 where
  name : Name
  is : found ≡ Some name
  among : IsIn name (m ∷ ns)
  first : is_lt (name_cmp m name) ≡ false
  others : AllByRecursion (λ n. is_lt (name_cmp n name) ≡ false) ns

fold_is_first : (m : Name) (ns : List Name) → IsFirst m ns (fold earlier (Some m) ns)
fold_is_first m [] = record { name = m; is = refl; among = inl refl; first = ap is_lt (tied_itself nat_list_cmp_total m); others = tt }
fold_is_first m (n ∷ ns) = by_cases (fold_is_first n ns) (fold_is_first m ns) (is_lt (name_cmp n m)) refl
  where
    by_cases : IsFirst n ns (fold earlier (Some n) ns) → IsFirst m ns (fold earlier (Some m) ns) → (b : Bool) → is_lt (name_cmp n m) ≡ b → IsFirst m (n ∷ ns) (fold earlier (cond b (Some n) (Some m)) ns)
    by_cases w _ true e = record {
      name = w.name;
      is = w.is;
      among = inr w.among;
      first = not_before nat_list_cmp_total w.name n m w.first (one_way nat_list_cmp_total n m e);
      others = (w.first, w.others);
    }
    by_cases _ w false e = record {
      name = w.name;
      is = w.is;
      among = elim w.among as (λ _. IsIn w.name (m ∷ n ∷ ns)) [ inl same ↦ inl same | inr i ↦ inr (inr i) ];
      first = w.first;
      others = (not_before nat_list_cmp_total w.name m n w.first e, w.others);
    }

fails_all : (test : Name → Bool) (names : List Name) → filter test names ≡ [] → (n : Name) → IsIn n names → test n ≡ false
fails_all test names e n i = by_cases (test n) refl
  where
    none : (ns : List Name) → ns ≡ [] → IsIn n ns → test n ≡ false
    none [] e i = absurd i
    none (m ∷ ms) e i = cc

    by_cases : (b : Bool) → test n ≡ b → test n ≡ false
    by_cases true h = none (filter test names) e (in_kept test n names i h)
    by_cases false h = h

least_among : (test : Name → Bool) (names kept : List Name) → filter test names ≡ kept → IsLeastOf test names (fold earlier None kept)
least_among test names [] e = λ n i. fails_all test names e n (in_contained names n i)
least_among test names (m ∷ ms) e =
    let w = fold_is_first m ms in
    let among = kept_in test w.name names (subst (IsIn w.name) (sym e) w.among) in
    let least : IsLeastPassing test names w.name = record {
      among = contained_in names w.name among.0;
      passes = among.1;
      first = λ n i h. all_at (λ k. is_lt (name_cmp k w.name) ≡ false) n (m ∷ ms) (subst (IsIn n) e (in_kept test n names (in_contained names n i) h)) (w.first, w.others);
    } in
    subst (IsLeastOf test names) (sym w.is) least

pub least_name_is_least : LeastNameIsLeast
least_name_is_least test names = least_among test names (filter test names) refl

-- where a name that stands in the list passes, a least one is found
pub least_found : (test : Name → Bool) (names : List Name) (n : Name) → IsIn n names → test n ≡ true → (w : Name) × (least_name test names ≡ Some w)
least_found test names n i h = by_cases (least_name test names) refl (least_name_is_least test names)
  where
    by_cases : (o : Option Name) → least_name test names ≡ o → IsLeastOf test names o → (w : Name) × (least_name test names ≡ Some w)
    by_cases None e is = let wrong : test n ≡ false = is n (contained_in names n i) in cc
    by_cases (Some w) e is = (w, e)

-- where one is found, it stands in the list and passes
pub found_passes : (test : Name → Bool) (names : List Name) (w : Name) → least_name test names ≡ Some w → IsIn w names × (test w ≡ true)
found_passes test names w e =
    let is : IsLeastPassing test names w = subst (IsLeastOf test names) e (least_name_is_least test names) in
    (in_contained names w is.among, is.passes)
