-- What a contract sees of a memo: its pairs, the most recently used first, and how many there may be.
use Rattle.std.specs.Prelude.{ℕ, ◌≤◌, Bool, true, false, List, [], ◌∷◌, length, take, ◌-◌, refl}
use Rattle.std.specs.List.{IsDistinct}
use Rattle.std.specs.Map.{keys_of, lookup_entry, remove_entry}
use Rattle.std.specs.Option.{option_map_or}
use Rattle.std.specs.Coded.{Coded, code_by, coded×, coded_list, coded_ℕ}

-- the pairs of a key and a value, the most recently used first, and the most that there may be
pub record Memo (K V : Type 0) : Type 0 where
  pub pairs : List (K × V)
  pub most : ℕ

module _ {K V : Type 0} where
  abbrev pub memo : List (K × V) → ℕ → Memo K V
  memo ps n = record { pairs = ps; most = n }

  -- a memo is stored as its pairs and its number
  abbrev pub memo_code : Coded K → Coded V → Coded (Memo K V)
  memo_code k v = code_by (List (K × V) × ℕ) (coded× (coded_list (coded× k v)) coded_ℕ) (λ m. (m.pairs, m.most)) (λ p. memo p.0 p.1) (λ _. refl)

  -- what holds of every memo: no two of its keys are equal, and it has no more pairs than it may
  abbrev pub IsWithin : (K → K → Bool) → Memo K V → Type 0
  IsWithin eq m = IsDistinct eq (keys_of m.pairs) × (length m.pairs ≤ m.most)

  -- the pair whose key passes the test goes to the front, and with no such pair all stay
  abbrev pub in_front : (K → Bool) → List (K × V) → List (K × V)
  in_front test ps = option_map_or (λ p. p ∷ remove_entry test ps) (lookup_entry test ps) ps

  -- the pair of a key and a value goes to the front: a key that is there gets the new value,
  -- and a new key in a full memo pushes the last pair out
  abbrev pub with_pair : (K → K → Bool) → Memo K V → K → V → List (K × V)
  with_pair eq m k v = option_map_or (λ p. (p.0, v) ∷ remove_entry (eq k) m.pairs) (lookup_entry (eq k) m.pairs) ((k, v) ∷ take (m.most - 1) m.pairs)

-- the new list has, in order, those pairs of the old one whose keys are kept;
-- `says k b` is that a call of the test on the key k answered b
pub data Keeps {K V : Type 0} (says : K → Bool → Type 0) : List (K × V) → List (K × V) → Type 0 where
  at_end : Keeps says [] []
  stays : (p : K × V) (old new : List (K × V)) → says p.0 true → Keeps says old new → Keeps says (p ∷ old) (p ∷ new)
  goes : (p : K × V) (old new : List (K × V)) → says p.0 false → Keeps says old new → Keeps says (p ∷ old) new

-- these are, in order, the keys of the pairs that are not kept
pub data Refuses {K V : Type 0} (says : K → Bool → Type 0) : List (K × V) → List K → Type 0 where
  at_last : Refuses says [] []
  passes : (p : K × V) (ps : List (K × V)) (keys : List K) → says p.0 true → Refuses says ps keys → Refuses says (p ∷ ps) keys
  fails : (p : K × V) (ps : List (K × V)) (keys : List K) → says p.0 false → Refuses says ps keys → Refuses says (p ∷ ps) (p.0 ∷ keys)
