-- What a core tells of its scenarios, from their rows without what they hold.
use Rattle.std.specs.Prelude.{ℕ, Bool, not, ◌||◌, List, ◌∷◌, [], map, filter, if◌then◌else◌, codes, decimal}
use Rattle.plan_schema.specs.declared.name.Name.{Name}
use Rattle.scenario_rules.specs.World.{is_name_of}
use Rattle.row_text.specs.Spelling.{words_text, calendar_text}
use Rattle.scenario_merge.specs.declared.forest.TreeRow.{TreeRow}

-- the line of a scenario
abbrev pub row_line : TreeRow → List ℕ
row_line row =
    words_text (row.name ∷ calendar_text row.parent ∷ calendar_text row.owner ∷ (if row.private then codes "private" else codes "shared") ∷ decimal row.own ∷ [])

-- a scenario that the user may use
abbrev pub allows : Name → TreeRow → Bool
allows user row = not row.private || is_name_of row.owner user

-- the lines of those that the user may use
abbrev pub row_lines : Name → List TreeRow → List (List ℕ)
row_lines user rows = map row_line (filter (allows user) rows)
