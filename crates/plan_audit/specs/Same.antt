-- Whether two entries are the same, by fields.
use Rattle.std.specs.Prelude.{Bool, true, false, ◌&&◌, ◌==◌, List, [], ◌∷◌}
use Rattle.plan_schema.specs.declared.key.Key.{Key}
use Rattle.plan_schema.specs.declared.key.Record.{Record}
use Rattle.plan_schema.specs.declared.change.Change.{Change}
use Rattle.plan_schema.specs.declared.change.Change.TheVariants as changes
use Rattle.plan_schema.specs.declared.change.Entry.{Entry}
use Rattle.plan_schema.specs.Key.{name_eq, key_eq}
use Rattle.scenario_rules.specs.Same.{same_record}

-- the same rows, in the same order
abbrev pub same_rows : List (Key × Record) → List (Key × Record) → Bool
same_rows [] [] = true
same_rows (row ∷ rows) (other ∷ others) = (key_eq row.0 other.0 && same_record row.1 other.1) && same_rows rows others
same_rows _ _ = false

-- two changes are the same: they are of one kind, and each field is the same
abbrev pub same_change : Change → Change → Bool
same_change (changes.Put scenario key value) (changes.Put other other_key other_value) =
    name_eq scenario other && (key_eq key other_key && same_record value other_value)
same_change (changes.Del scenario key) (changes.Del other other_key) = name_eq scenario other && key_eq key other_key
same_change (changes.Load scenario rows) (changes.Load other other_rows) = name_eq scenario other && same_rows rows other_rows
same_change (changes.Branch parent child) (changes.Branch other_parent other_child) = name_eq parent other_parent && name_eq child other_child
same_change (changes.Share scenario) (changes.Share other) = name_eq scenario other
same_change (changes.Update scenario) (changes.Update other) = name_eq scenario other
same_change (changes.Commit scenario) (changes.Commit other) = name_eq scenario other
same_change (changes.Drop scenario) (changes.Drop other) = name_eq scenario other
same_change _ _ = false

abbrev pub same_entry : Entry → Entry → Bool
same_entry a b = (a.session == b.session) && ((a.line == b.line) && (name_eq a.user b.user && same_change a.change b.change))
