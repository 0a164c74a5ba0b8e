-- What is kept of a LOAD while its rows are read, and what it comes to.
use Rattle.std.specs.Prelude.{◌≡◌, ◌<◌, ◌≤◌, true, false, List, ◌∷◌, [], ◌++◌, length, map, Option, Some, None, Result}
use Rattle.std.specs.List.{enumerate_from, filter_map}
use Rattle.std.specs.Result.{result_ok}
use Rattle.plan_schema.specs.declared.key.Key.{Key}
use Rattle.plan_schema.specs.declared.key.Record.{Record}
use Rattle.plan_schema.specs.declared.change.Change.{Change}
use Rattle.plan_schema.specs.declared.limits.TheConstants.{LINE_LIMIT}
use Rattle.plan_schema.specs.Name.{is_name}
use Rattle.plan_schema.specs.Sound.{are_sound_rows, is_sound_change}
use Rattle.command_words.specs.declared.reply.Bad.{Bad}
use Rattle.session_rules.specs.Requests.{Line, Wish, Makes, IsBad, row_reading, fault_in, first_fault}
use Rattle.session_rules.specs.Sessions.{is_load}
use Rattle.request_loop.specs.Reading.{Rows}
use Rattle.request_loop.specs.declared.gathering.Gathering.{Gathering}
use Rattle.request_loop.specs.declared.gathering.Gathered.{Gathered}
use Rattle.request_loop.specs.declared.gathering.Gathered.TheVariants as comes

-- the lines of a LOAD, each as the row that it is
abbrev pub readings : List Line → List (Result (Key × Record) Bad)
readings lines = map (λ row. row_reading row.0 row.1) (enumerate_from 1 lines)

-- the first of two faults
abbrev pub earlier : Option Bad → Option Bad → Option Bad
earlier None later = later
earlier (Some bad) later = Some bad

-- What is kept of these rows: how many there are, the first fault of them, and where there is none and no want of memory, all of them.
pub record IsGathered (r : Rows) (g : Gathering) : Type 0 where
  pub line : g.line ≡ r.line
  pub scenario : g.scenario ≡ r.scenario
  pub count : g.count ≡ r.count
  pub read : g.read ≡ length r.rows
  pub fault : g.fault ≡ first_fault (readings r.rows)
  pub rows : g.fault ≡ None → g.is_wanting ≡ false → g.rows ≡ filter_map result_ok (readings r.rows)
  pub sound : are_sound_rows g.rows ≡ true
  pub named : is_name r.scenario ≡ true
  pub some_line : 1 ≤ r.line
  pub most_lines : r.line ≤ LINE_LIMIT
  pub some_rows : 1 ≤ r.count
  pub most_rows : r.count ≤ 1000

-- the same, where more rows are still to come; or no LOAD is begun
abbrev pub AreGathered : Option Rows → Option Gathering → Type 0
AreGathered None None = Unit {0}
AreGathered (Some r) (Some g) = IsGathered r g × (length r.rows < r.count)
AreGathered _ _ = ⊥

abbrev pub AreBegun : Option Gathering → Type 0
AreBegun rows = (kept : Option Rows) × AreGathered kept rows

-- one row more was kept, or why it is none
pub record IsKept (row : Result (Key × Record) Bad) (old new : Gathering) : Type 0 where
  pub line : new.line ≡ old.line
  pub scenario : new.scenario ≡ old.scenario
  pub count : new.count ≡ old.count
  pub read : new.read ≡ old.read
  pub fault : new.fault ≡ earlier old.fault (fault_in row)
  pub rows : new.fault ≡ None → new.is_wanting ≡ false → (old.is_wanting ≡ false) × (new.rows ≡ old.rows ++ filter_map result_ok (row ∷ []))
  pub sound : are_sound_rows old.rows ≡ true → are_sound_rows new.rows ≡ true

-- what a LOAD comes to: it isn't in the grammar, it is a sound change, or there was no memory for its rows
abbrev pub ComesTo : Wish → Gathered → Type 0
ComesTo wish (comes.Faulty bad) = wish ≡ IsBad bad
ComesTo wish comes.Wanting = (change : Change) × (wish ≡ Makes change) × (is_load change ≡ true)
ComesTo wish (comes.Sound change) = (wish ≡ Makes change) × (is_sound_change change ≡ true)
