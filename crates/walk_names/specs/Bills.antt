-- The bills among records.
use Rattle.std.specs.Prelude.{Option, Some, None}
use Rattle.plan_schema.specs.declared.name.Name.{Name}
use Rattle.plan_schema.specs.declared.key.Key.{Key}
use Rattle.plan_schema.specs.declared.key.Key.TheVariants as keys
use Rattle.plan_schema.specs.declared.key.Record.{Record}
use Rattle.plan_schema.specs.declared.key.Record.TheVariants as records

-- the component and the parent of the bill that a row is
abbrev pub bill_pair : (Key × Record) → Option (Name × Name)
bill_pair (keys.Bill parent component, records.Bill per span) = Some (component, parent)
bill_pair _ = None
