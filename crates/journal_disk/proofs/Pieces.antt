-- A disk's bytes, read piece by piece.
use Rattle.std.proofs.Common.{◌≡◌, ℕ, ◌+◌, ◌<◌, ◌≤◌, List, [], ◌++◌, length, take, drop, sym, ap, ◌∙◌, take-add, length-append, arith}
use Rattle.std.proofs.lemmas.List.{length-take, take_all, length-drop}
use Rattle.journal_disk.specs.Disks.{GaveFrom}

-- the bytes so far are a front of all
pub record IsFront (all bytes : List ℕ) : Type 0 where
  pub within : length bytes ≤ length all
  pub front : bytes ≡ take (length bytes) all

-- all of them
pub front_whole : (all bytes : List ℕ) → IsFront all bytes → length all ≤ length bytes → bytes ≡ all
front_whole all bytes so_far over = so_far.front ∙ take_all (length bytes) all over

-- none is left
pub front_end : (all bytes into : List ℕ) (n : ℕ) → IsFront all bytes → GaveFrom (drop (length bytes) all) into n → 0 < length into → n ≡ 0 → bytes ≡ all
front_end all bytes into n so_far gave room none =
    let end : drop (length bytes) all ≡ [] = gave.end room none in
    front_whole all bytes so_far (omega (arith, length-drop (length bytes) all, ap length end))

-- a piece more
pub front_more : (all bytes into : List ℕ) (n : ℕ) → IsFront all bytes → n ≤ length into → GaveFrom (drop (length bytes) all) into n → IsFront all (bytes ++ take n into)
front_more all bytes into n so_far fits gave =
    let long : length (bytes ++ take n into) ≡ length bytes + n = omega (arith, length-append bytes (take n into), length-take n into) in
    record {
      within = omega (arith, long, so_far.within, gave.within, length-drop (length bytes) all);
      front = ap (λ (xs : List ℕ). bytes ++ xs) gave.given ∙ ap (λ (xs : List ℕ). xs ++ take n (drop (length bytes) all)) so_far.front ∙ sym (take-add (length bytes) n all) ∙ ap (λ (m : ℕ). take m all) (sym long);
    }
