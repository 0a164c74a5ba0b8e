-- Beginnings of stories, and the entries of a number in them.
use Rattle.std.proofs.Common.{◌≡◌, ◌≢◌, ◌≤◌, ◌+◌, ℕ, suc, List, [], ◌∷◌, ◌++◌, length, true, false, refl, sym, ap, ◌∙◌, inl, inr, arith, nat_lt, append-nil, append_assoc, length-append, drop}
use Rattle.std.specs.Prelude.{◌==◌}
use Rattle.std.proofs.lemmas.Bool.{cases_Bool}
use Rattle.std.proofs.lemmas.Bool.Decides.{nat_tests}
use Rattle.std.proofs.lemmas.List.Elements.{filter-append}
use Rattle.std.proofs.Math.Seq.{drop-append_seam}
use Rattle.turn_table.specs.Story.{entries_of, Begins, AreKept, longer, shorter, past}

module _ {E : Type 0} where
  pub begins-itself : (xs : List (ℕ × E)) → Begins xs xs
  begins-itself xs = ([], sym (append-nil xs))

  pub begins-more : (xs ys more : List (ℕ × E)) → Begins xs ys → Begins xs (ys ++ more)
  begins-more xs ys more h = (h.0 ++ more, ap (λ l. l ++ more) h.1 ∙ append_assoc xs h.0 more)

  -- of two beginnings of one story the one that isn't longer begins the other
  pub begins-both : (xs ys log : List (ℕ × E)) → Begins xs log → Begins ys log → length xs ≤ length ys → Begins xs ys
  begins-both [] ys log a b le = (ys, refl)
  begins-both (x ∷ xs) [] log a b le = absurd (omega arith)
  begins-both (x ∷ xs) (y ∷ ys) log a b le =
      let both : x ∷ (xs ++ a.0) ≡ y ∷ (ys ++ b.0) = sym a.1 ∙ b.1 in
      let head : x ≡ y = ap (λ l. head_or l x) both in
      let tails : xs ++ a.0 ≡ ys ++ b.0 = ap (drop 1) both in
      let t : Begins xs ys = begins-both xs ys (xs ++ a.0) (a.0, refl) (b.0, tails) (omega arith) in
      (t.0, λ k. sym head k ∷ t.1 k)
    where
      head_or : {A : Type 0} → List A → A → A
      head_or [] d = d
      head_or (x ∷ xs) d = x

  -- a beginning that is as long as the story is the story
  pub begins-whole : (xs ys : List (ℕ × E)) → Begins xs ys → length ys ≤ length xs → xs ≡ ys
  begins-whole xs ys h le =
      let n : length ys ≡ length xs + length h.0 = ap length h.1 ∙ length-append xs h.0 in
      let nothing : h.0 ≡ [] = none h.0 (omega arith) in
      sym (h.1 ∙ ap (λ l. xs ++ l) nothing ∙ append-nil xs)
    where
      none : {A : Type 0} → (l : List A) → length l ≡ 0 → l ≡ []
      none [] e = refl
      none (x ∷ l) e = absurd (omega arith)

  pub past-more : (xs more : List (ℕ × E)) → past xs (xs ++ more) ≡ more
  past-more xs more = drop-append_seam xs more

  pub longer-begins : (xs ys log : List (ℕ × E)) → Begins xs log → Begins ys log → Begins (longer xs ys) log × Begins (shorter xs ys) log
  longer-begins xs ys log a b = elim (cases_Bool (nat_lt (length xs) (length ys))) [
    | inl yes_less ↦ rw yes_less (b, a)
    | inr no_less ↦ rw no_less (a, b)
  ]

  -- both lists begin the longer one
  pub begin-longer : (xs ys log : List (ℕ × E)) → Begins (longer xs ys) log → Begins (shorter xs ys) log → Begins xs (longer xs ys) × Begins ys (longer xs ys)
  begin-longer xs ys log = elim (cases_Bool (nat_lt (length xs) (length ys))) [
    | inl yes_less ↦ let l : length xs ≤ length ys = grind (arith, nat_tests) in rw yes_less (λ a b. (begins-both xs ys log b a l, begins-itself ys))
    | inr no_less ↦ let l : length ys ≤ length xs = grind (arith, nat_tests) in rw no_less (λ a b. (begins-itself xs, begins-both ys xs log b a l))
  ]

  pub entries-append : (k : ℕ) (xs ys : List (ℕ × E)) → entries_of k (xs ++ ys) ≡ entries_of k xs ++ entries_of k ys
  entries-append k xs ys = filter-append (λ (e : ℕ × E). e.0 == k) xs ys

  front-nil : (xs ys : List (ℕ × E)) → xs ++ ys ≡ [] → xs ≡ []
  front-nil [] ys e = refl
  front-nil (x ∷ xs) ys e = let n : suc (length (xs ++ ys)) ≡ 0 = ap length e in absurd (omega arith)

  back-nil : (xs ys : List (ℕ × E)) → xs ++ ys ≡ xs → ys ≡ []
  back-nil [] ys e = e
  back-nil (x ∷ xs) ys e = back-nil xs ys (ap (drop 1) e)

  -- no entries in a story, none in its beginning
  pub entries-none : (k : ℕ) (xs log : List (ℕ × E)) → Begins xs log → entries_of k log ≡ [] → entries_of k xs ≡ []
  entries-none k xs log h e = front-nil (entries_of k xs) (entries_of k h.0) (sym (entries-append k xs h.0) ∙ (ap (entries_of k) (sym h.1) ∙ e))

  -- what stands between two lists with the same entries of a number has the same
  pub entries-between : (k : ℕ) (xs ys log : List (ℕ × E)) → Begins xs ys → Begins ys log → entries_of k log ≡ entries_of k xs → entries_of k ys ≡ entries_of k xs
  entries-between k xs ys log a b e =
      let one : entries_of k ys ≡ entries_of k xs ++ entries_of k a.0 = ap (entries_of k) a.1 ∙ entries-append k xs a.0 in
      let two : entries_of k log ≡ entries_of k ys ++ entries_of k b.0 = ap (entries_of k) b.1 ∙ entries-append k ys b.0 in
      let all : entries_of k xs ++ (entries_of k a.0 ++ entries_of k b.0) ≡ entries_of k xs =
      sym (append_assoc (entries_of k xs) (entries_of k a.0) (entries_of k b.0)) ∙ (ap (λ l. l ++ entries_of k b.0) (sym one) ∙ (sym two ∙ e)) in
      let none : entries_of k a.0 ≡ [] = front-nil (entries_of k a.0) (entries_of k b.0) (back-nil (entries_of k xs) (entries_of k a.0 ++ entries_of k b.0) all) in
      one ∙ (ap (λ l. entries_of k xs ++ l) none ∙ append-nil (entries_of k xs))

  -- one more entry is one of its maker's, and of nobody else
  pub entries-own : (n : ℕ) (e : E) → entries_of n ((n, e) ∷ []) ≡ (n, e) ∷ []
  entries-own n e = let same : (n == n) ≡ true = grind (arith, nat_tests) in rw same refl

  pub entries-other : (k n : ℕ) (e : E) → k ≢ n → entries_of k ((n, e) ∷ []) ≡ []
  entries-other k n e apart = let other : (n == k) ≡ false = grind (arith, nat_tests) in rw other refl

  pub kept-append : (log : List (ℕ × E)) (xs ys : List (ℕ × List (ℕ × E))) → AreKept log xs → AreKept log ys → AreKept log (xs ++ ys)
  kept-append log [] ys a b = b
  kept-append log (x ∷ xs) ys a b = (a.0, kept-append log xs ys a.1 b)
