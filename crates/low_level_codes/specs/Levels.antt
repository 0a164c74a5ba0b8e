-- Levels of names over bills.
use Rattle.std.specs.Prelude.{◌≡◌, ℕ, ◌↔◌, ◌⊎◌, List, [], ◌∷◌, Bool, true, ◌&&◌, ◌||◌, ◌==◌, nat_lt, Some, None, map, Contains}
use Rattle.std.specs.List.{list_any, list_all, AllByRecursion}
use Rattle.std.specs.Ordering.{is_lt}
use Rattle.plan_schema.specs.declared.name.Name.{Name}
use Rattle.plan_schema.specs.declared.key.Key.TheVariants as keys
use Rattle.plan_schema.specs.declared.key.Record.TheVariants as records
use Rattle.plan_schema.specs.Key.{name_cmp}
use Rattle.plan_schema.specs.Contents.{Contents}
use Rattle.planning_rules.specs.Bills.{parents, is_ancestor, level}

-- bills as records, in their order: a pair is a component and a parent of it
abbrev pub as_records : List (Name × Name) → Contents
as_records bills = map (λ bill. (keys.Bill bill.1 bill.0, records.Bill 1 None)) bills

-- names in ascending order, each once
abbrev pub are_ascending : List Name → Bool
are_ascending [] = true
are_ascending (n ∷ ns) = list_all (λ m. is_lt (name_cmp n m)) ns && are_ascending ns

-- these are the names and all their ancestors
pub record IsClosure (bills : List (Name × Name)) (from closed : List Name) : Type 0 where
  pub ascending : are_ascending closed ≡ true
  pub members : (n : Name) → Contains closed n ↔ (Contains from n ⊎ (list_any (λ m. is_ancestor (as_records bills) m n) from ≡ true))

-- the names hold the parents of each of them
abbrev pub AreClosed : List (Name × Name) → List Name → Type 0
AreClosed bills names = AllByRecursion (λ n. AllByRecursion (Contains names) (parents (as_records bills) n)) names

-- pairs of a name and a level stand by level and then by name
abbrev pub before : Name × ℕ → Name × ℕ → Bool
before a b = nat_lt a.1 b.1 || ((a.1 == b.1) && is_lt (name_cmp a.0 b.0))

abbrev pub are_by_level : List (Name × ℕ) → Bool
are_by_level [] = true
are_by_level (a ∷ more) = list_all (before a) more && are_by_level more

-- these are the names with their levels
pub record AreLevels (bills : List (Name × Name)) (names : List Name) (levels : List (Name × ℕ)) : Type 0 where
  pub ordered : are_by_level levels ≡ true
  pub members : (n : Name) → Contains names n ↔ Contains (map (λ pair. pair.0) levels) n
  pub each : AllByRecursion (λ pair. level (as_records bills) pair.0 ≡ Some pair.1) levels
