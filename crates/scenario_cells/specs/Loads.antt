-- Rows put one after another in a scenario that is changed in place.
use Rattle.std.specs.Prelude.{ℕ, Bool, if◌then◌else◌, [], ◌∷◌, Option}
use Rattle.plan_schema.specs.declared.key.Key.{Key}
use Rattle.plan_schema.specs.declared.key.Record.{Record}
use Rattle.record_versions.specs.Versions.{CellList, cell_at}
use Rattle.scenario_cells.specs.declared.held.Held.{Held}
use Rattle.scenario_cells.specs.declared.held.Loaded.{Loaded}
use Rattle.scenario_cells.specs.Held.{IsHeld, IsReady, IsChanged}

-- the scenario with what is loaded: the root in its base, too
abbrev pub held_with : Bool → Held → Loaded → Held
held_with root h l = record {
  parent = h.parent;
  owner = h.owner;
  private = h.private;
  base = if root then l.ids else h.base;
  ids = l.ids;
  own = l.own;
  parts = l.parts;
  records = l.records;
}

-- one more row is put, whichever scenario it is
abbrev pub IsNextLoaded : ℕ → Bool → Key → Option Record → CellList → Loaded → CellList → Loaded → Type 0
IsNextLoaded point root key value cells old cells' new =
    (h : Held) → IsHeld (cell_at cells) (held_with root h old) → IsReady point root (held_with root h old)
    → IsChanged point root ((key, value) ∷ []) (cell_at cells) (cell_at cells') (held_with root h old) (held_with root h new)
