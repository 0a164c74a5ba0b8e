-- What a shelf tells: what it holds under each name, and its counts of faults.
use Rattle.std.specs.Prelude.{ℕ, ◌≤◌, List, Option}

pub record View : Type 0 where
  pub held : List ℕ → Option (List ℕ)
  pub opens : List ℕ → ℕ
  pub reads : List ℕ → ℕ
  pub writes : List ℕ → ℕ

-- the view of a shelf, by its meanings
abbrev pub view : {S : Type 0} → (S → List ℕ → Option (List ℕ)) → (S → List ℕ → ℕ) → (S → List ℕ → ℕ) → (S → List ℕ → ℕ) → S → View
view held opens reads writes shelf = record { held = held shelf; opens = opens shelf; reads = reads shelf; writes = writes shelf }

-- no count fell
pub record NoneFell (old new : View) : Type 0 where
  pub opens : (name : List ℕ) → old.opens name ≤ new.opens name
  pub reads : (name : List ℕ) → old.reads name ≤ new.reads name
  pub writes : (name : List ℕ) → old.writes name ≤ new.writes name
