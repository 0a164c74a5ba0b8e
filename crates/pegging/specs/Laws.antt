-- The pegs from a part's own rows are those of the definitions of planning.
use Rattle.std.specs.Prelude.{◌≡◌, ℕ, Option, map}
use Rattle.plan_schema.specs.declared.name.Name.{Name}
use Rattle.plan_schema.specs.declared.change.CellName.TheVariants as names
use Rattle.plan_schema.specs.Contents.{Contents, cell_rows}
use Rattle.planning_rules.specs.Bills.{parents}
use Rattle.planning_rules.specs.Days.{start_of}
use Rattle.planning_rules.specs.Plan.{Known, released}
use Rattle.planning_rules.specs.Pegs.{pegs_from}
use Rattle.pegging.specs.Pegs.{pegs_by}

-- the pegs that the rows of a part's cell give, with the release lists of its parents, are those from all records
abbrev pub PegsAreFromCell : Type 0
PegsAreFromCell = (plans : Name → Option Known) (c : Contents) (n : Name) (t : ℕ)
    → pegs_by (cell_rows c (names.Part n)) (start_of c) t (map (λ p. released (plans p)) (parents c n)) ≡ pegs_from plans c n t
