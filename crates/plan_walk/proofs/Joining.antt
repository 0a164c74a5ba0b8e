-- A part is appended to the graph of a walk, after its parents.
use Rattle.std.proofs.Common.{◌≡◌, ℕ, zero, suc, ◌+◌, ◌<◌, ◌≤◌, ◌⊎◌, inl, inr, List, [], ◌∷◌, ◌++◌, length, map, take, set, refl, sym, ◌∙◌, ap, subst, arith, Bool, true, false, ◌==◌, length-append}
use Rattle.std.proofs.lemmas.List.{map-append, map-set}
use Rattle.std.proofs.lemmas.Bool.{cases_lt}
use Rattle.std.proofs.lemmas.Bool.Decides.{nat_tests}
use Rattle.std.proofs.lemmas.Map.Views.{exact_unsigned_eq}
use Rattle.std.specs.Prelude.{Some, slice_get}
use Rattle.std.specs.List.{AllByRecursion, list_any}
use Rattle.planning_rules.proofs.Membership.{either, or_left, or_right}
use Rattle.plan_walk.specs.declared.node.Node.{Node}
use Rattle.plan_walk.specs.Places.{AreDistinct}
use Rattle.plan_walk.specs.Nodes.{node_names, ups_at, downs_at, IsGraph}
use Rattle.plan_walk.specs.Making.{Bare, bare, bares, Linked}
use Rattle.plan_walk.proofs.SoFar.{downs_there}
use Rattle.plan_walk.proofs.Taking.{take_next, told_long}
use Rattle.plan_walk.proofs.LookUps.{inside}

-- lists with one item more ---------------------------------------------------------------------------------------------------

any_first : {A : Type 0} (g : A → Bool) (xs ys : List A) → list_any g xs ≡ true → list_any g (xs ++ ys) ≡ true
any_first g [] ys h = cc
any_first g (x ∷ xs) ys h = elim (either (g x) (list_any g xs) h) [
  | inl here ↦ or_left (g x) (list_any g (xs ++ ys)) here
  | inr later ↦ or_right (g x) (list_any g (xs ++ ys)) (any_first g xs ys later)
]

any_last : {A : Type 0} (g : A → Bool) (xs : List A) (y : A) → g y ≡ true → list_any g (xs ++ y ∷ []) ≡ true
any_last g [] y h = or_left (g y) false h
any_last g (x ∷ xs) y h = or_right (g x) (list_any g (xs ++ y ∷ [])) (any_last g xs y h)

any_split : {A : Type 0} (g : A → Bool) (xs : List A) (y : A) → list_any g (xs ++ y ∷ []) ≡ true → (list_any g xs ≡ true) ⊎ (g y ≡ true)
any_split g [] y h = elim (either (g y) false h) [ inl here ↦ inr here | inr other ↦ inl other ]
any_split g (x ∷ xs) y h = elim (either (g x) (list_any g (xs ++ y ∷ [])) h) [
  | inl here ↦ inl (or_left (g x) (list_any g xs) here)
  | inr later ↦ elim (any_split g xs y later) [ inl was ↦ inl (or_right (g x) (list_any g xs) was) | inr last ↦ inr last ]
]

pub all_last : {A : Type 0} (P : A → Type 0) (xs : List A) (y : A) → AllByRecursion P xs → P y → AllByRecursion P (xs ++ y ∷ [])
all_last P [] y h last = (last, tt)
all_last P (x ∷ xs) y h last = (h.0, all_last P xs y h.1 last)

pub all_more : {A : Type 0} (P Q : A → Type 0) → ((x : A) → P x → Q x) → (xs : List A) → AllByRecursion P xs → AllByRecursion Q xs
all_more P Q f [] h = tt
all_more P Q f (x ∷ xs) h = (f x h.0, all_more P Q f xs h.1)

all_any : (P : ℕ → Type 0) (qs : List ℕ) (i : ℕ) → AllByRecursion P qs → list_any (λ q. q == i) qs ≡ true → P i
all_any P [] i h any = cc
all_any P (q ∷ qs) i h any = elim (either (q == i) (list_any (λ k. k == i) qs) any) [
  | inl here ↦ subst P (exact_unsigned_eq q i here) h.0
  | inr later ↦ all_any P qs i h.1 later
]

itself : (k : ℕ) → (k == k) ≡ true
itself k = grind (arith, nat_tests)

all_of : (P : ℕ → Type 0) (qs : List ℕ) → ((k : ℕ) → list_any (λ q. q == k) qs ≡ true → P k) → AllByRecursion P qs
all_of P [] f = tt
all_of P (q ∷ qs) f = (f q (or_left (q == q) (list_any (λ r. r == q) qs) (itself q)), all_of P qs (λ k any. f k (or_right (q == k) (list_any (λ r. r == k) qs) any)))

set_same : {A : Type 0} (xs : List A) (i : ℕ) (x : A) → slice_get xs i ≡ Some x → set xs i x ≡ xs
set_same [] i x is = refl
set_same (y ∷ ys) zero x is = let same : y ≡ x = cc in ap (λ z. z ∷ ys) (sym same)
set_same (y ∷ ys) (suc i) x is = ap (λ zs. y ∷ zs) (set_same ys i x is)

bare_there : (nodes : List Node) (i : ℕ) (node : Node) → slice_get nodes i ≡ Some node → slice_get (bares nodes) i ≡ Some (bare node)
bare_there [] i node is = absurd (let never : ⊥ = cc in never)
bare_there (other ∷ nodes) zero node is = let same : other ≡ node = cc in ap (λ (x : Node). Some (bare x)) same
bare_there (other ∷ nodes) (suc i) node is = bare_there nodes i node is

-- the components of one part --------------------------------------------------------------------------------------------------

downs_here : (nodes : List Node) (q : ℕ) (x : Node) → q < length nodes → downs_at (set nodes q x) q ≡ x.downs.items
downs_here [] q x l = absurd (omega arith)
downs_here (node ∷ nodes) zero x l = refl
downs_here (node ∷ nodes) (suc q) x l = let short : q < length nodes = omega arith in downs_here nodes q x short

downs_other : (nodes : List Node) (q i : ℕ) (x : Node) → (i == q) ≡ false → downs_at (set nodes q x) i ≡ downs_at nodes i
downs_other [] q i x e = refl
downs_other (node ∷ nodes) zero zero x e = cc
downs_other (node ∷ nodes) zero (suc i) x e = refl
downs_other (node ∷ nodes) (suc q) zero x e = refl
downs_other (node ∷ nodes) (suc q) (suc i) x e = let less : (i == q) ≡ false = grind (arith, nat_tests) in downs_other nodes q i x less

pub link_begins : (place : ℕ) (old : List Node) → Linked place [] old old
link_begins place old = record {
  same = refl;
  kept = λ i k h. h;
  added = λ i h. cc;
  only = λ i k h. inl h;
}

module _ (place : ℕ) (ups : List ℕ) (t q : ℕ) (old now : List Node) (at : slice_get ups t ≡ Some q) (l : Linked place (take t ups) old now) (node x : Node) (is : slice_get now q ≡ Some node)
    (same_bare : bare x ≡ bare node) (more : x.downs.items ≡ node.downs.items ++ place ∷ []) where
  here : downs_at (set now q x) q ≡ downs_at now q ++ place ∷ []
  here = downs_here now q x (inside now q node is) ∙ more ∙ ap (λ ds. ds ++ place ∷ []) (sym (downs_there now q node is))

  there_too : (i k : ℕ) → list_any (λ r. r == k) (downs_at now i) ≡ true → list_any (λ r. r == k) (downs_at (set now q x) i) ≡ true
  there_too i k h = by_cases (i == q) refl
    where
      by_cases : (b : Bool) → (i == q) ≡ b → list_any (λ r. r == k) (downs_at (set now q x) i) ≡ true
      by_cases true e =
          let same : i ≡ q = exact_unsigned_eq i q e in
          subst (λ j. list_any (λ r. r == k) (downs_at (set now q x) j) ≡ true) (sym same)
          (subst (λ ds. list_any (λ r. r == k) ds ≡ true) (sym here) (any_first (λ r. r == k) (downs_at now q) (place ∷ []) (subst (λ j. list_any (λ r. r == k) (downs_at now j) ≡ true) same h)))
      by_cases false e = subst (λ ds. list_any (λ r. r == k) ds ≡ true) (sym (downs_other now q i x e)) h

  pub link_more : Linked place (take (suc t) ups) old (set now q x)
  link_more = record {
    same = map-set bare now q x ∙ ap (set (bares now) q) same_bare ∙ set_same (bares now) q (bare node) (bare_there now q node is) ∙ l.same;
    kept = λ i k h. there_too i k (l.kept i k h);
    added = λ i h. elim (any_split (λ r. r == i) (take t ups) q (subst (λ qs. list_any (λ r. r == i) qs ≡ true) (take_next ups t q at) h)) [
      | inl was ↦ there_too i place (l.added i was)
      | inr last ↦ subst (λ j. list_any (λ r. r == place) (downs_at (set now q x) j) ≡ true) (exact_unsigned_eq q i last)
          (subst (λ ds. list_any (λ r. r == place) ds ≡ true) (sym here) (any_last (λ r. r == place) (downs_at now q) place (itself place)))
    ];
    only = λ i k h. onlys i k h (i == q) refl;
  }
    where
      among : (i : ℕ) → list_any (λ r. r == i) (take t ups) ≡ true → list_any (λ r. r == i) (take (suc t) ups) ≡ true
      among i h = subst (λ qs. list_any (λ r. r == i) qs ≡ true) (sym (take_next ups t q at)) (any_first (λ r. r == i) (take t ups) (q ∷ []) h)

      now_among : list_any (λ r. r == q) (take (suc t) ups) ≡ true
      now_among = subst (λ qs. list_any (λ r. r == q) qs ≡ true) (sym (take_next ups t q at)) (any_last (λ r. r == q) (take t ups) q (itself q))

      was_or_is : (i k : ℕ) → (list_any (λ r. r == k) (downs_at old i) ≡ true) ⊎ ((k ≡ place) × (list_any (λ r. r == i) (take t ups) ≡ true))
          → (list_any (λ r. r == k) (downs_at old i) ≡ true) ⊎ ((k ≡ place) × (list_any (λ r. r == i) (take (suc t) ups) ≡ true))
      was_or_is i k (inl was) = inl was
      was_or_is i k (inr is) = inr (is.0, among i is.1)

      onlys : (i k : ℕ) → list_any (λ r. r == k) (downs_at (set now q x) i) ≡ true → (b : Bool) → (i == q) ≡ b
          → (list_any (λ r. r == k) (downs_at old i) ≡ true) ⊎ ((k ≡ place) × (list_any (λ r. r == i) (take (suc t) ups) ≡ true))
      onlys i k h true e =
          let same : i ≡ q = exact_unsigned_eq i q e in
          let all : list_any (λ r. r == k) (downs_at now q ++ place ∷ []) ≡ true = subst (λ ds. list_any (λ r. r == k) ds ≡ true) here (subst (λ j. list_any (λ r. r == k) (downs_at (set now q x) j) ≡ true) same h) in
          elim (any_split (λ r. r == k) (downs_at now q) place all) [
            | inl was ↦ was_or_is i k (l.only i k (subst (λ j. list_any (λ r. r == k) (downs_at now j) ≡ true) (sym same) was))
            | inr last ↦ inr (sym (exact_unsigned_eq place k last), subst (λ j. list_any (λ r. r == j) (take (suc t) ups) ≡ true) (sym same) now_among)
          ]
      onlys i k h false e = was_or_is i k (l.only i k (subst (λ ds. list_any (λ r. r == k) ds ≡ true) (downs_other now q i x e) h))

pub linked_long : (place : ℕ) (ups : List ℕ) (old now : List Node) → Linked place ups old now → length now ≡ length old
linked_long place ups old now l = sym (told_long bare now) ∙ ap length l.same ∙ told_long bare old

pub take_all : {A : Type 0} (xs : List A) (k : ℕ) → length xs ≤ k → take k xs ≡ xs
take_all [] zero l = refl
take_all [] (suc k) l = refl
take_all (x ∷ xs) zero l = absurd (omega arith)
take_all (x ∷ xs) (suc k) l = let short : length xs ≤ k = omega arith in ap (λ ys. x ∷ ys) (take_all xs k short)

-- one part more ---------------------------------------------------------------------------------------------------------------

ups_before : (xs : List Node) (node : Node) (i : ℕ) → i < length xs → ups_at (xs ++ node ∷ []) i ≡ ups_at xs i
ups_before [] node i l = absurd (omega arith)
ups_before (x ∷ xs) node zero l = refl
ups_before (x ∷ xs) node (suc i) l = let short : i < length xs = omega arith in ups_before xs node i short

ups_last : (xs : List Node) (node : Node) (i : ℕ) → i ≡ length xs → ups_at (xs ++ node ∷ []) i ≡ node.ups.items
ups_last [] node zero e = refl
ups_last [] node (suc i) e = absurd (omega arith)
ups_last (x ∷ xs) node zero e = absurd (omega arith)
ups_last (x ∷ xs) node (suc i) e = let short : i ≡ length xs = omega arith in ups_last xs node i short

ups_beyond : (xs : List Node) (node : Node) (i : ℕ) → length xs < i → ups_at (xs ++ node ∷ []) i ≡ []
ups_beyond [] node zero l = absurd (omega arith)
ups_beyond [] node (suc i) l = refl
ups_beyond (x ∷ xs) node zero l = absurd (omega arith)
ups_beyond (x ∷ xs) node (suc i) l = let short : length xs < i = omega arith in ups_beyond xs node i short

downs_before : (xs : List Node) (node : Node) (i : ℕ) → i < length xs → downs_at (xs ++ node ∷ []) i ≡ downs_at xs i
downs_before [] node i l = absurd (omega arith)
downs_before (x ∷ xs) node zero l = refl
downs_before (x ∷ xs) node (suc i) l = let short : i < length xs = omega arith in downs_before xs node i short

downs_last : (xs : List Node) (node : Node) (i : ℕ) → i ≡ length xs → downs_at (xs ++ node ∷ []) i ≡ node.downs.items
downs_last [] node zero e = refl
downs_last [] node (suc i) e = absurd (omega arith)
downs_last (x ∷ xs) node zero e = absurd (omega arith)
downs_last (x ∷ xs) node (suc i) e = let short : i ≡ length xs = omega arith in downs_last xs node i short

downs_beyond : (xs : List Node) (node : Node) (i : ℕ) → length xs < i → downs_at (xs ++ node ∷ []) i ≡ []
downs_beyond [] node zero l = absurd (omega arith)
downs_beyond [] node (suc i) l = refl
downs_beyond (x ∷ xs) node zero l = absurd (omega arith)
downs_beyond (x ∷ xs) node (suc i) l = let short : length xs < i = omega arith in downs_beyond xs node i short

names_bare : (nodes : List Node) → map (λ (b : Bare). b.name) (bares nodes) ≡ node_names nodes
names_bare [] = refl
names_bare (node ∷ nodes) = ap (λ ns. node.name ∷ ns) (names_bare nodes)

abbrev ups_in : List Bare → ℕ → List ℕ
ups_in [] i = []
ups_in (b ∷ bs) zero = b.ups
ups_in (b ∷ bs) (suc i) = ups_in bs i

ups_bare : (nodes : List Node) (i : ℕ) → ups_in (bares nodes) i ≡ ups_at nodes i
ups_bare [] i = refl
ups_bare (node ∷ nodes) zero = refl
ups_bare (node ∷ nodes) (suc i) = ups_bare nodes i

one_of_three : (i n : ℕ) → (i < n) ⊎ ((i ≡ n) ⊎ (n < i))
one_of_three i n = elim (cases_lt i n) [
  | inl less ↦ inl less
  | inr more ↦ elim (cases_lt n i) [ inl above ↦ inr (inr above) | inr not_above ↦ inr (inl (omega arith)) ]
]

module _ (old now : List Node) (node : Node) (l : Linked (length old) node.ups.items old now) where
  as_long : length now ≡ length old
  as_long = linked_long (length old) node.ups.items old now l

  longer : length (now ++ node ∷ []) ≡ length old + 1
  longer = length-append now (node ∷ []) ∙ ap (λ k. k + 1) as_long

  names_kept : node_names now ≡ node_names old
  names_kept = sym (names_bare now) ∙ ap (map (λ (b : Bare). b.name)) l.same ∙ names_bare old

  ups_kept : (i : ℕ) → ups_at now i ≡ ups_at old i
  ups_kept i = sym (ups_bare now i) ∙ ap (λ bs. ups_in bs i) l.same ∙ ups_bare old i

  pub names_joined : node_names (now ++ node ∷ []) ≡ node_names old ++ node.name ∷ []
  names_joined = map-append (λ (x : Node). x.name) now (node ∷ []) ∙ ap (λ ns. ns ++ node.name ∷ []) names_kept

  pub bares_joined : bares (now ++ node ∷ []) ≡ bares old ++ bare node ∷ []
  bares_joined = map-append bare now (node ∷ []) ∙ ap (λ bs. bs ++ bare node ∷ []) l.same

  -- it is a graph as before
  module _ (g : IsGraph old) (distinct : AreDistinct (node_names old ++ node.name ∷ [])) (low : AllByRecursion (λ q. q < length old) node.ups.items) (alone : node.downs.items ≡ []) where
    pub graph_joined : IsGraph (now ++ node ∷ [])
    graph_joined = record {
      distinct = subst AreDistinct (sym names_joined) distinct;
      before = λ i. befores i (one_of_three i (length old));
      below = λ i k h. belows i k h (one_of_three k (length old));
      after = λ i. afters i (one_of_three i (length old));
    }
      where
        ups_old : (i : ℕ) → i < length old → ups_at (now ++ node ∷ []) i ≡ ups_at old i
        ups_old i less = let long = as_long in ups_before now node i (omega arith) ∙ ups_kept i

        ups_new : (i : ℕ) → i ≡ length old → ups_at (now ++ node ∷ []) i ≡ node.ups.items
        ups_new i same = ups_last now node i (same ∙ sym as_long)

        ups_none : (i : ℕ) → length old < i → ups_at (now ++ node ∷ []) i ≡ []
        ups_none i above = let long = as_long in ups_beyond now node i (omega arith)

        downs_old : (i : ℕ) → i < length old → downs_at (now ++ node ∷ []) i ≡ downs_at now i
        downs_old i less = let long = as_long in downs_before now node i (omega arith)

        befores : (i : ℕ) → (i < length old) ⊎ ((i ≡ length old) ⊎ (length old < i)) → AllByRecursion (λ q. q < i) (ups_at (now ++ node ∷ []) i)
        befores i (inl less) = subst (AllByRecursion (λ q. q < i)) (sym (ups_old i less)) (g.before i)
        befores i (inr (inl same)) = subst (AllByRecursion (λ q. q < i)) (sym (ups_new i same)) (subst (λ n. AllByRecursion (λ q. q < n) node.ups.items) (sym same) low)
        befores i (inr (inr above)) = subst (AllByRecursion (λ q. q < i)) (sym (ups_none i above)) tt

        belows : (i k : ℕ) → list_any (λ q. q == i) (ups_at (now ++ node ∷ []) k) ≡ true → (k < length old) ⊎ ((k ≡ length old) ⊎ (length old < k)) → list_any (λ q. q == k) (downs_at (now ++ node ∷ []) i) ≡ true
        belows i k h (inl less) =
            let up : list_any (λ q. q == i) (ups_at old k) ≡ true = subst (λ qs. list_any (λ q. q == i) qs ≡ true) (ups_old k less) h in
            let under : i < k = all_any (λ q. q < k) (ups_at old k) i (g.before k) up in
            subst (λ ds. list_any (λ q. q == k) ds ≡ true) (sym (downs_old i (omega arith))) (l.kept i k (g.below i k up))
        belows i k h (inr (inl same)) =
            let up : list_any (λ q. q == i) node.ups.items ≡ true = subst (λ qs. list_any (λ q. q == i) qs ≡ true) (ups_new k same) h in
            let under : i < length old = all_any (λ q. q < length old) node.ups.items i low up in
            subst (λ ds. list_any (λ q. q == k) ds ≡ true) (sym (downs_old i under)) (subst (λ n. list_any (λ q. q == n) (downs_at now i) ≡ true) (sym same) (l.added i up))
        belows i k h (inr (inr above)) = let none : false ≡ true = sym (ap (list_any (λ q. q == i)) (ups_none k above)) ∙ h in cc

        afters : (i : ℕ) → (i < length old) ⊎ ((i ≡ length old) ⊎ (length old < i)) → AllByRecursion (λ k. (i < k) × (k < length (now ++ node ∷ []))) (downs_at (now ++ node ∷ []) i)
        afters i (inl less) =
            let more = longer in
            subst (AllByRecursion (λ k. (i < k) × (k < length (now ++ node ∷ [])))) (sym (downs_old i less))
            (all_of (λ k. (i < k) × (k < length (now ++ node ∷ []))) (downs_at now i) (λ k any. elim (l.only i k any) [
              | inl was ↦ let old_one = all_any (λ j. (i < j) × (j < length old)) (downs_at old i) k (g.after i) was in let low_one = old_one.0 in let high_one = old_one.1 in (low_one, omega arith)
              | inr is ↦ let here = is.0 in (omega arith, omega arith)
            ]))
        afters i (inr (inl same)) = subst (AllByRecursion (λ k. (i < k) × (k < length (now ++ node ∷ [])))) (sym (downs_last now node i (same ∙ sym as_long) ∙ alone)) tt
        afters i (inr (inr above)) =
            let long = as_long in
            subst (AllByRecursion (λ k. (i < k) × (k < length (now ++ node ∷ [])))) (sym (downs_beyond now node i (omega arith))) tt
