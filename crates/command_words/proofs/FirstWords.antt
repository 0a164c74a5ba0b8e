-- The first words of a line, piece by piece.
use Rattle.std.proofs.Common.{◌≡◌, ℕ, zero, suc, ◌<◌, ◌≤◌, Bool, true, cond, List, [], ◌∷◌, ◌++◌, length, take, drop, nat_lt, refl, sym, ap, ◌∙◌, arith, length-append}
use Rattle.std.specs.Prelude.{filter}
use Rattle.std.specs.Borrow.{Bor}
use Rattle.std.proofs.lemmas.List.Elements.{filter-append}
use Rattle.std.proofs.lemmas.List.{map-append, length-map, take_all, take-append-drop, take-append-le}
use Rattle.row_text.specs.Texts.{texts}

abbrev pub some : List ℕ → Bool
some word = nat_lt 0 (length word)

-- a list that is shorter than what is taken of it is taken whole
taken_whole : (n : ℕ) (l : List (List ℕ)) → length (take n l) < n → take n l ≡ l
taken_whole zero l h = absurd (omega arith)
taken_whole (suc n) [] h = refl
taken_whole (suc n) (x ∷ l) h = λ i. x ∷ taken_whole n l (omega arith) i

taken_full : (n : ℕ) (l : List (List ℕ)) → length (take n l) ≡ n → n ≤ length l
taken_full zero l h = omega arith
taken_full (suc n) [] h = absurd (omega arith)
taken_full (suc n) (x ∷ l) h = let rest = taken_full n l (omega arith) in omega arith

-- the words so far, with one more
pub one_more : (ws ys : List (Bor (List ℕ))) (w : Bor (List ℕ)) → texts ws ≡ take 10 (filter some (texts ys)) → length ws < 10 → some w.now ≡ true
    → texts (ws ++ w ∷ []) ≡ take 10 (filter some (texts (ys ++ w ∷ [])))
one_more ws ys w h room one =
    let found = filter some (texts ys) in
    let as_long : length ws ≡ length (take 10 found) = sym (length-map ws (λ (b : Bor (List ℕ)). b.now)) ∙ ap length h in
    let whole : take 10 found ≡ found = taken_whole 10 found (omega arith) in
    let now : texts (ws ++ w ∷ []) ≡ found ++ w.now ∷ [] = map-append (λ (b : Bor (List ℕ)). b.now) ws (w ∷ []) ∙ ap (λ l. l ++ w.now ∷ []) (h ∙ whole) in
    let more : filter some (texts (ys ++ w ∷ [])) ≡ found ++ w.now ∷ [] = ap (filter some) (map-append (λ (b : Bor (List ℕ)). b.now) ys (w ∷ [])) ∙ filter-append some (texts ys) (w.now ∷ []) ∙ ap (λ t. found ++ cond t (w.now ∷ []) []) one in
    let short : length (found ++ w.now ∷ []) ≤ 10 = let n = length-append found (w.now ∷ []) in let same = ap length whole in omega arith in
    now ∙ sym (ap (take 10) more ∙ take_all 10 (found ++ w.now ∷ []) short)

-- once sixteen words are found, the rest is not looked at
pub enough : (ws ys : List (Bor (List ℕ))) (all : List (List ℕ)) (n : ℕ) → texts ws ≡ take 10 (filter some (texts ys)) → length ws ≡ 10 → texts ys ≡ take n all
    → texts ws ≡ take 10 (filter some all)
enough ws ys all n h full seen =
    let found = filter some (texts ys) in
    let as_long : length ws ≡ length (take 10 found) = sym (length-map ws (λ (b : Bor (List ℕ)). b.now)) ∙ ap length h in
    let many : 10 ≤ length found = taken_full 10 found (omega arith) in
    let parts : filter some all ≡ found ++ filter some (drop n all) = ap (filter some) (sym (take-append-drop n all)) ∙ filter-append some (take n all) (drop n all) ∙ ap (λ s. filter some s ++ filter some (drop n all)) (sym seen) in
    h ∙ sym (ap (take 10) parts ∙ take-append-le 10 found (filter some (drop n all)) many)
