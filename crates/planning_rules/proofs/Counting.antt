-- How many names of a list pass a test.
use Rattle.std.proofs.Common.{◌≡◌, ℕ, ◌+◌, ◌<◌, ◌≤◌, inl, inr, List, [], ◌∷◌, length, refl, ◌∙◌, ap, arith, Bool, true, false, cond}
use Rattle.std.specs.List.{AllByRecursion}
use Rattle.plan_schema.specs.declared.name.Name.{Name}
use Rattle.planning_rules.proofs.Membership.{IsIn}

unfoldable pub passing : (Name → Bool) → List Name → ℕ
passing p [] = 0
passing p (n ∷ ns) = cond (p n) 1 0 + passing p ns

pub passing_most : (p : Name → Bool) (ns : List Name) → passing p ns ≤ length ns
unfolding passing
passing_most p [] = omega arith
passing_most p (n ∷ ns) = let rest = passing_most p ns in elim (p n) as (λ b. cond b 1 0 + passing p ns ≤ length (n ∷ ns)) [ true ↦ omega arith | false ↦ omega arith ]

-- more names pass a weaker test
pub passing_le : (p q : Name → Bool) → ((n : Name) → p n ≡ true → q n ≡ true) → (ns : List Name) → passing p ns ≤ passing q ns
unfolding passing
passing_le p q more [] = omega arith
passing_le p q more (n ∷ ns) =
    let rest = passing_le p q more ns in
    by_cases (p n) (q n) (more n) (passing p ns) (passing q ns) rest
  where
    by_cases : (a b : Bool) → (a ≡ true → b ≡ true) → (x y : ℕ) → x ≤ y → cond a 1 0 + x ≤ cond b 1 0 + y
    by_cases true true h x y l = omega arith
    by_cases true false h x y l = let wrong : false ≡ true = h refl in cc
    by_cases false true h x y l = omega arith
    by_cases false false h x y l = omega arith

-- where no more names pass the weaker test, the tests agree
pub passing_same : (p q : Name → Bool) → ((n : Name) → p n ≡ true → q n ≡ true) → (ns : List Name) → passing q ns ≤ passing p ns → AllByRecursion (λ n. p n ≡ q n) ns
unfolding passing
passing_same p q more [] le = tt
passing_same p q more (n ∷ ns) le =
    let rest = passing_le p q more ns in
    let here : (p n ≡ q n) × (passing q ns ≤ passing p ns) = by_cases (p n) (q n) (more n) (passing p ns) (passing q ns) rest le in
    (here.0, passing_same p q more ns here.1)
  where
    by_cases : (a b : Bool) → (a ≡ true → b ≡ true) → (x y : ℕ) → x ≤ y → cond b 1 0 + y ≤ cond a 1 0 + x → (a ≡ b) × (y ≤ x)
    by_cases true true h x y l m = (refl, omega arith)
    by_cases true false h x y l m = let wrong : false ≡ true = h refl in cc
    by_cases false true h x y l m = absurd (omega arith)
    by_cases false false h x y l m = (refl, omega arith)

-- more names pass the weaker test, where one of them passes it alone
pub passing_less : (f g : Name → Bool) → ((n : Name) → f n ≡ true → g n ≡ true) → (p : Name) (ns : List Name) → IsIn p ns → f p ≡ false → g p ≡ true → passing f ns < passing g ns
unfolding passing
passing_less f g more p [] i less more' = absurd i
passing_less f g more p (n ∷ ns) (inl e) less more' =
    let rest = passing_le f g more ns in
    let fn : f n ≡ false = ap f e ∙ less in
    let gn : g n ≡ true = ap g e ∙ more' in
    rw (fn, gn) (omega arith)
passing_less f g more p (n ∷ ns) (inr i) less more' =
    let rest = passing_less f g more p ns i less more' in
    by_cases (f n) (g n) (more n) (passing f ns) (passing g ns) rest
  where
    by_cases : (a b : Bool) → (a ≡ true → b ≡ true) → (x y : ℕ) → x < y → cond a 1 0 + x < cond b 1 0 + y
    by_cases true true h x y l = omega arith
    by_cases true false h x y l = let wrong : false ≡ true = h refl in cc
    by_cases false true h x y l = omega arith
    by_cases false false h x y l = omega arith
