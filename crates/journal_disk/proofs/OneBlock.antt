-- One block of a store.
use Rattle.std.proofs.Common.{◌≡◌, ◌≢◌, ℕ, zero, suc, ◌+◌, ◌-◌, ◌^◌, ◌<◌, ◌≤◌, List, [], ◌∷◌, ◌++◌, length, take, drop, get_or, refl, sym, ap, ◌∙◌, arith, length-append, take-append-drop}
use Rattle.std.proofs.lemmas.List.{take_at, drop_at, take_all, length-take-le, length-drop}
use Rattle.std.proofs.lemmas.Nat.{be_bytes_4, from_be_bytes-to_be_bytes_4}
use Rattle.std.specs.Int.{w32, to_be_bytes, from_be_bytes}
use Rattle.journal_disk.specs.Stores.{IsBlock}

-- the four bytes behind the gate
abbrev pub size_bytes : List ℕ → List ℕ
size_bytes bytes = get_or bytes 1 0 ∷ get_or bytes 2 0 ∷ get_or bytes 3 0 ∷ get_or bytes 4 0 ∷ []

-- what stands behind them
abbrev pub behind_size : List ℕ → List ℕ
behind_size bytes = take (length bytes - 5) (drop 5 bytes)

module _ (text bytes after : List ℕ) (block : IsBlock text bytes after) where
  pub block_rest : drop 5 bytes ≡ text ++ after
  block_rest = ap (drop 5) block.is

  pub block_gate : get_or bytes 0 0 ≢ 0
  block_gate shut = let is : get_or bytes 0 0 ≡ block.gate = ap (λ (l : List ℕ). get_or l 0 0) block.is in block.open_gate (sym is ∙ shut)

  pub block_length : length bytes ≡ 5 + length text + length after
  block_length =
      let all : length bytes ≡ 5 + length (text ++ after) = omega (arith, ap length block.is) in
      omega (arith, all, length-append text after)

  pub block_size : length bytes < 2 ^ 32 → from_be_bytes w32 (size_bytes bytes) ≡ length text
  block_size few =
      ap (λ (l : List ℕ). from_be_bytes w32 (size_bytes l)) block.is
      ∙ from_be_bytes-to_be_bytes_4 (length text) (let fits : length text < 2 ^ 32 = omega (arith, few, block_length) in fits)

-- bytes begin with at most one block
pub one_text : (text other bytes after behind : List ℕ) → length bytes < 2 ^ 32 → IsBlock text bytes after → IsBlock other bytes behind → text ≡ other
one_text text other bytes after behind few one two =
    let size : length text ≡ length other = sym (block_size text bytes after one few) ∙ block_size other bytes behind two few in
    sym (take_at text after (length text) refl) ∙ ap (take (length text)) (sym (block_rest text bytes after one) ∙ block_rest other bytes behind two) ∙ take_at other behind (length text) (sym size)

pub one_behind : (text other bytes after behind : List ℕ) → length bytes < 2 ^ 32 → IsBlock text bytes after → IsBlock other bytes behind → after ≡ behind
one_behind text other bytes after behind few one two =
    let size : length text ≡ length other = sym (block_size text bytes after one few) ∙ block_size other bytes behind two few in
    sym (drop_at text after (length text) refl) ∙ ap (drop (length text)) (sym (block_rest text bytes after one) ∙ block_rest other bytes behind two) ∙ drop_at other behind (length text) (sym size)

-- five bytes and more
made : (gate a b c d : ℕ) (rest text after : List ℕ) (size : ℕ) → ((i : ℕ) → get_or (a ∷ b ∷ c ∷ d ∷ []) i 0 < 256) → gate ≢ 0 → size ≡ from_be_bytes w32 (a ∷ b ∷ c ∷ d ∷ []) → length text ≡ size → text ++ after ≡ rest
    → IsBlock text (gate ∷ a ∷ b ∷ c ∷ d ∷ rest) after
made gate a b c d rest text after size small open_gate is long parts =
    let four : to_be_bytes w32 (length text) ≡ a ∷ b ∷ c ∷ d ∷ [] = ap (to_be_bytes w32) long ∙ be_bytes_4 (a ∷ b ∷ c ∷ d ∷ []) size refl small is in
    record { gate = gate; open_gate = open_gate; is = ap (λ (l : List ℕ). gate ∷ a ∷ b ∷ c ∷ d ∷ l) (sym parts) ∙ ap (λ (l : List ℕ). gate ∷ (l ++ (text ++ after))) (sym four) }

small_four : (bytes : List ℕ) → ((i : ℕ) → get_or bytes i 0 < 256) → (i : ℕ) → get_or (size_bytes bytes) i 0 < 256
small_four bytes small zero = small 1
small_four bytes small (suc zero) = small 2
small_four bytes small (suc (suc zero)) = small 3
small_four bytes small (suc (suc (suc zero))) = small 4
small_four bytes small (suc (suc (suc (suc i)))) = omega arith

-- a block whose text has the length that its four bytes tell
pub block_made : (bytes : List ℕ) (size : ℕ) → 5 ≤ length bytes → ((i : ℕ) → get_or bytes i 0 < 256) → get_or bytes 0 0 ≢ 0 → size ≡ from_be_bytes w32 (size_bytes bytes) → size ≤ length (behind_size bytes)
    → IsBlock (take size (behind_size bytes)) bytes (take (length (behind_size bytes) - size) (drop size (behind_size bytes)))
block_made [] size long small open_gate is within = absurd (omega arith)
block_made (g ∷ []) size long small open_gate is within = absurd (omega arith)
block_made (g ∷ a ∷ []) size long small open_gate is within = absurd (omega arith)
block_made (g ∷ a ∷ b ∷ []) size long small open_gate is within = absurd (omega arith)
block_made (g ∷ a ∷ b ∷ c ∷ []) size long small open_gate is within = absurd (omega arith)
block_made (g ∷ a ∷ b ∷ c ∷ d ∷ rest) size long small open_gate is within =
    let behind : List ℕ = behind_size (g ∷ a ∷ b ∷ c ∷ d ∷ rest) in
    let whole : behind ≡ rest = take_all (length (g ∷ a ∷ b ∷ c ∷ d ∷ rest) - 5) rest (omega arith) in
    let last : take (length behind - size) (drop size behind) ≡ drop size behind = take_all (length behind - size) (drop size behind) (omega (arith, length-drop size behind)) in
    made g a b c d rest (take size behind) (take (length behind - size) (drop size behind)) size (small_four (g ∷ a ∷ b ∷ c ∷ d ∷ rest) small) open_gate is (length-take-le size behind within)
    (ap (λ (l : List ℕ). take size behind ++ l) last ∙ take-append-drop size behind ∙ whole)

-- the length that the four bytes tell is that of a block's text, which is there
pub block_fits : (text bytes after : List ℕ) → IsBlock text bytes after → length bytes < 2 ^ 32 → from_be_bytes w32 (size_bytes bytes) ≤ length (behind_size bytes)
block_fits text bytes after block few =
    let whole : behind_size bytes ≡ text ++ after = take_all (length bytes - 5) (drop 5 bytes) (omega (arith, length-drop 5 bytes)) ∙ block_rest text bytes after block in
    omega (arith, block_size text bytes after block few, ap length whole, length-append text after)
