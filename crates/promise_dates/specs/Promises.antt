-- What can be promised on the days of a horizon.
use Rattle.std.specs.Prelude.{ℕ, List, [], ◌∷◌}
use Rattle.planning_rules.specs.Promise.{least_of}

-- the promises of days with these balances: of each day the least balance from it on
abbrev pub promises : List ℕ → List ℕ
promises [] = []
promises (balance ∷ more) = least_of (balance ∷ more) ∷ promises more
