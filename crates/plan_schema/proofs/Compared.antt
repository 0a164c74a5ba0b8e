-- Names compared by words of eight cells.
use Rattle.std.proofs.Common.{◌≡◌, ℕ, zero, suc, ◌+◌, ◌-◌, ◌*◌, ◌<◌, ◌≤◌, true, false, List, [], ◌∷◌, ◌++◌, length, take, drop, get_or, replicate, refl, ap, sym, ◌∙◌, arith}
use Rattle.std.specs.Prelude.{◌==◌, not}
use Rattle.std.specs.Ordering.{nat_cmp, ordering_then, ordering_index, is_eq}
use Rattle.std.proofs.lemmas.List.{drop_all, drop-drop, length-drop, length-take-le}
use mathlib.Core.Bool.{true≢false}
use Rattle.std.specs.Cmp.{nat_cmp_is}
use Rattle.std.specs.declared.cmp.Ordering.{Ordering}
use Rattle.std.specs.declared.cmp.Ordering.TheVariants.{Less, Equal, Greater}
use Rattle.std.specs.Cmp.Lexicographic.{slice_cmp}
use Rattle.std.specs.List.{list_all}
use Rattle.std.proofs.lemmas.Bool.{and_parts}
use Rattle.std.proofs.lemmas.Bool.Decides.{nat_tests}
use Rattle.plan_schema.specs.Name.{is_name_byte, is_name, IsNameIn, worth}
use Rattle.plan_schema.proofs.Names.{short}

then_equal : (o : Ordering) → ordering_then o Equal ≡ o
then_equal Less = refl
then_equal Equal = refl
then_equal Greater = refl

then_assoc : (a b c : Ordering) → ordering_then (ordering_then a b) c ≡ ordering_then a (ordering_then b c)
then_assoc Less b c = refl
then_assoc Equal b c = refl
then_assoc Greater b c = refl

-- a digit behind two numbers decides where they are equal
digit_decides : (a b x y : ℕ) → x < 256 → y < 256 → ordering_then (nat_cmp a b) (nat_cmp x y) ≡ nat_cmp (a * 256 + x) (b * 256 + y)
digit_decides a b x y p q = grind (arith, nat_tests)

-- the numbers that equally many bytes spell compare as the bytes do
pub worth_compares : (a b : ℕ) (xs ys : List ℕ) → length xs ≡ length ys → ((i : ℕ) → get_or xs i 0 < 256) → ((i : ℕ) → get_or ys i 0 < 256)
    → ordering_then (nat_cmp a b) (slice_cmp nat_cmp xs ys) ≡ nat_cmp (worth a xs) (worth b ys)
worth_compares a b [] [] h p q = then_equal (nat_cmp a b)
worth_compares a b [] (y ∷ ys) h p q = grind (arith)
worth_compares a b (x ∷ xs) [] h p q = grind (arith)
worth_compares a b (x ∷ xs) (y ∷ ys) h p q =
    sym (then_assoc (nat_cmp a b) (nat_cmp x y) (slice_cmp nat_cmp xs ys))
    ∙ ap (λ o. ordering_then o (slice_cmp nat_cmp xs ys)) (digit_decides a b x y (p 0) (q 0))
    ∙ worth_compares (a * 256 + x) (b * 256 + y) xs ys (grind (arith)) (λ i. p (suc i)) (λ i. q (suc i))

-- each number of a list is a byte
abbrev AreBytes : List ℕ → Type 0
AreBytes xs = (i : ℕ) → get_or xs i 0 < 256

bytes_take : (n : ℕ) (xs : List ℕ) → AreBytes xs → AreBytes (take n xs)
bytes_take zero xs p i = grind (arith)
bytes_take (suc n) [] p i = grind (arith)
bytes_take (suc n) (x ∷ xs) p zero = p 0
bytes_take (suc n) (x ∷ xs) p (suc i) = bytes_take n xs (λ j. p (suc j)) i

bytes_drop : (n : ℕ) (xs : List ℕ) → AreBytes xs → AreBytes (drop n xs)
bytes_drop zero xs p = p
bytes_drop (suc n) [] p = p
bytes_drop (suc n) (x ∷ xs) p = bytes_drop n xs (λ j. p (suc j))

-- lists compare by their first parts, and where these are equal by the rest
by_parts : (n : ℕ) (xs ys : List ℕ) → n ≤ length xs → n ≤ length ys
    → slice_cmp nat_cmp xs ys ≡ ordering_then (slice_cmp nat_cmp (take n xs) (take n ys)) (slice_cmp nat_cmp (drop n xs) (drop n ys))
by_parts zero xs ys p q = refl
by_parts (suc n) [] ys p q = grind (arith)
by_parts (suc n) (x ∷ xs) [] p q = grind (arith)
by_parts (suc n) (x ∷ xs) (y ∷ ys) p q =
    ap (ordering_then (nat_cmp x y)) (by_parts n xs ys (grind (arith)) (grind (arith)))
    ∙ sym (then_assoc (nat_cmp x y) (slice_cmp nat_cmp (take n xs) (take n ys)) (slice_cmp nat_cmp (drop n xs) (drop n ys)))

-- the comparison of eight cells from a place on
abbrev pub at_word : ℕ → List ℕ → List ℕ → Ordering
at_word from xs ys = nat_cmp (worth 0 (take 8 (drop from xs))) (worth 0 (take 8 (drop from ys)))

by_word : (from : ℕ) (xs ys : List ℕ) → from + 8 ≤ length xs → from + 8 ≤ length ys → AreBytes xs → AreBytes ys
    → slice_cmp nat_cmp (drop from xs) (drop from ys) ≡ ordering_then (at_word from xs ys) (slice_cmp nat_cmp (drop 8 (drop from xs)) (drop 8 (drop from ys)))
by_word from xs ys p q u v =
    let first : 8 ≤ length (drop from xs) = enough xs p in
    let second : 8 ≤ length (drop from ys) = enough ys q in
    by_parts 8 (drop from xs) (drop from ys) first second
    ∙ ap (λ o. ordering_then o (slice_cmp nat_cmp (drop 8 (drop from xs)) (drop 8 (drop from ys))))
    (worth_compares 0 0 (take 8 (drop from xs)) (take 8 (drop from ys)) (length-take-le 8 (drop from xs) first ∙ sym (length-take-le 8 (drop from ys) second))
    (bytes_take 8 _ (bytes_drop from xs u)) (bytes_take 8 _ (bytes_drop from ys v)))
  where
    enough : (zs : List ℕ) → from + 8 ≤ length zs → 8 ≤ length (drop from zs)
    enough zs r = let is = length-drop from zs in grind (arith)

-- the comparison of the second word and all behind it
abbrev pub behind_first : List ℕ → List ℕ → Ordering
behind_first xs ys = ordering_then (ordering_then (at_word 8 xs ys) (at_word 16 xs ys)) (at_word 24 xs ys)

-- 32 cells compare as four words do
pub by_words : (xs ys : List ℕ) → length xs ≡ 32 → length ys ≡ 32 → AreBytes xs → AreBytes ys
    → slice_cmp nat_cmp xs ys ≡ ordering_then (at_word 0 xs ys) (behind_first xs ys)
by_words xs ys p q u v =
    let first = by_word 0 xs ys (grind (arith)) (grind (arith)) u v in
    let second = by_word 8 xs ys (grind (arith)) (grind (arith)) u v in
    let third = by_word 16 xs ys (grind (arith)) (grind (arith)) u v in
    let fourth = by_word 24 xs ys (grind (arith)) (grind (arith)) u v in
    let none : slice_cmp nat_cmp (drop 32 xs) (drop 32 ys) ≡ Equal = λ i. slice_cmp nat_cmp (drop_all 32 xs (grind (arith)) i) (drop_all 32 ys (grind (arith)) i) in
    let last : slice_cmp nat_cmp (drop 24 xs) (drop 24 ys) ≡ at_word 24 xs ys = fourth ∙ ap (ordering_then (at_word 24 xs ys)) (next 24 ∙ none) ∙ then_equal (at_word 24 xs ys) in
    first ∙ ap (ordering_then (at_word 0 xs ys)) (next 0 ∙ second
    ∙ ap (ordering_then (at_word 8 xs ys)) (next 8 ∙ third ∙ ap (ordering_then (at_word 16 xs ys)) (next 16 ∙ last))
    ∙ sym (then_assoc (at_word 8 xs ys) (at_word 16 xs ys) (at_word 24 xs ys)))
  where
    next : (from : ℕ) → slice_cmp nat_cmp (drop 8 (drop from xs)) (drop 8 (drop from ys)) ≡ slice_cmp nat_cmp (drop (from + 8) xs) (drop (from + 8) ys)
    next from = λ i. slice_cmp nat_cmp (drop-drop 8 from xs i) (drop-drop 8 from ys i)

-- an answer that isn't Equal decides, and Equal leaves it to the next
pub decided : (o p : Ordering) → not (ordering_index o == 1) ≡ true → ordering_then o p ≡ o
decided Less p h = refl
decided Equal p h = absurd (true≢false (sym h))
decided Greater p h = refl

pub undecided : (o p : Ordering) → not (ordering_index o == 1) ≡ false → ordering_then o p ≡ p
undecided Less p h = absurd (true≢false h)
undecided Equal p h = refl
undecided Greater p h = absurd (true≢false h)

zeros : (n : ℕ) → slice_cmp nat_cmp (replicate n 0) (replicate n 0) ≡ Equal
zeros zero = refl
zeros (suc n) = zeros n

-- bytes that are not 0 compare as they do with zeros behind them, up to one length
with_zeros : (xs ys : List ℕ) (n m : ℕ) → length xs + n ≡ length ys + m → list_all is_name_byte xs ≡ true → list_all is_name_byte ys ≡ true
    → slice_cmp nat_cmp (xs ++ replicate n 0) (ys ++ replicate m 0) ≡ slice_cmp nat_cmp xs ys
with_zeros [] [] n m h u v =
    let same : m ≡ n = grind (arith) in
    ap (λ k. slice_cmp nat_cmp (replicate n 0) (replicate k 0)) same ∙ zeros n
with_zeros [] (y ∷ ys) zero m h u v = grind (arith)
with_zeros [] (zero ∷ ys) (suc n) m h u v = absurd (true≢false (sym v))
with_zeros [] (suc y ∷ ys) (suc n) m h u v = ap (λ o. ordering_then o (slice_cmp nat_cmp (replicate n 0) (ys ++ replicate m 0))) (sym (nat_cmp_is 0 (suc y) Less (grind (arith))))
with_zeros (x ∷ xs) [] n zero h u v = grind (arith)
with_zeros (zero ∷ xs) [] n (suc m) h u v = absurd (true≢false (sym u))
with_zeros (suc x ∷ xs) [] n (suc m) h u v = ap (λ o. ordering_then o (slice_cmp nat_cmp (xs ++ replicate n 0) (replicate m 0))) (sym (nat_cmp_is (suc x) 0 Greater (grind (arith))))
with_zeros (x ∷ xs) (y ∷ ys) n m h u v = ap (ordering_then (nat_cmp x y)) (with_zeros xs ys n m (grind (arith)) (and_parts _ _ u).1 (and_parts _ _ v).1)

-- cells compare as their names do
pub as_names : (xs ys : List ℕ) (n m : ℕ) → IsNameIn xs n → IsNameIn ys m → slice_cmp nat_cmp xs ys ≡ slice_cmp nat_cmp (take n xs) (take m ys)
unfolding is_name
as_names xs ys n m p q =
    (λ i. slice_cmp nat_cmp (sym p.padded i) (sym q.padded i))
    ∙ with_zeros (take n xs) (take m ys) (32 - length (take n xs)) (32 - length (take m ys)) (same_length (short (take n xs) p.name) (short (take m ys) q.name))
    (and_parts _ _ p.name).1 (and_parts _ _ q.name).1
  where
    same_length : length (take n xs) ≤ 32 → length (take m ys) ≤ 32 → length (take n xs) + (32 - length (take n xs)) ≡ length (take m ys) + (32 - length (take m ys))
    same_length a b = grind (arith)

pub tested : (o : Ordering) → (ordering_index o == 1) ≡ is_eq o
tested Less = refl
tested Equal = refl
tested Greater = refl
