-- What a core answers to a change, and what is of it then.
use Rattle.std.specs.Prelude.{◌≡◌, ◌⊎◌, ℕ, ◌%◌, ◌==◌, if◌then◌else◌, Bool, true, false, Option, Some, None, Result, Ok, Err}
use Rattle.plan_schema.specs.declared.name.Name.{Name}
use Rattle.plan_schema.specs.declared.change.Change.{Change}
use Rattle.plan_schema.specs.declared.change.Entry.{Entry}
use Rattle.plan_schema.specs.declared.refusal.Refusal.{Refusal}
use Rattle.plan_schema.specs.declared.refusal.Refusal.TheVariants as refusals
use Rattle.plan_schema.specs.declared.refusal.Room.TheVariants as rooms
use Rattle.scenario_rules.specs.Refused.{refused}
use Rattle.walk_names.specs.declared.trouble.Trouble.{Trouble}
use Rattle.walk_names.specs.declared.trouble.Trouble.TheVariants.{Refused, Memory}
use Rattle.plan_core.specs.State.{State, history, point_of, with_entry, added}
use Rattle.plan_core.specs.Reclaims.{IsReclaimed}

-- why a change is refused after the history: the first rule that it breaks
unfoldable pub refusal_of : State → Name → Change → Option Refusal
refusal_of core user change = refused core.base (history core) user change

-- a refusal for which want of memory may stand, as for none: one for want of room in the contents or the journal. All others are found
-- without memory
abbrev pub yields_to_memory : Option Refusal → Bool
yields_to_memory None = true
yields_to_memory (Some (refusals.Full rooms.Parts)) = true
yields_to_memory (Some (refusals.Full rooms.Records)) = true
yields_to_memory (Some (refusals.Full rooms.Journal)) = true
yields_to_memory (Some refusal) = false

-- a refusal that isn't one of these
abbrev pub first_nine : Option Refusal → Option Refusal
first_nine refusal = if yields_to_memory refusal then None else refusal

-- after each 1,024th change the core gives back what no scenario uses
abbrev pub is_reclaim_due : ℕ → Bool
is_reclaim_due point = (point % 1024) == 0

-- the same with one more for which there was no memory
abbrev pub with_one_dropped : State → State
with_one_dropped core = record core { tally = added core.tally (record { netted = 0; reused = 0; dropped = 1 }) }

-- a core after an entry: where a reclaim is due it was done, or skipped for want of memory and counted
abbrev pub IsTidied : Bool → State → State → Type 0
IsTidied true entered new = IsReclaimed entered new ⊎ (new ≡ with_one_dropped entered)
IsTidied false entered new = new ≡ entered

-- an accepted change: it isn't refused, it stands at the end of the history, and its number is answered
pub record IsEntered (old new : State) (entry : Entry) (number : ℕ) : Type 0 where
  pub allowed : refusal_of old entry.user entry.change ≡ None
  pub entered : IsTidied (is_reclaim_due (point_of (with_entry old entry))) (with_entry old entry) new
  pub number_is : number ≡ point_of new

-- a refused change: its first refusal is answered with the number of entries, and nothing changes
pub record IsRefused (old new : State) (entry : Entry) (point : ℕ) (refusal : Refusal) : Type 0 where
  pub first : refusal_of old entry.user entry.change ≡ Some refusal
  pub point_is : point ≡ point_of old
  pub same : new ≡ old

-- there was no memory for a change: nothing changes
pub record IsWanting (old new : State) (entry : Entry) : Type 0 where
  pub late : yields_to_memory (refusal_of old entry.user entry.change) ≡ true
  pub same : new ≡ old

-- what a change is answered
abbrev pub IsChangeAnswer : State → State → Entry → Result ℕ Trouble → Type 0
IsChangeAnswer old new entry (Ok number) = IsEntered old new entry number
IsChangeAnswer old new entry (Err (Refused point refusal)) = IsRefused old new entry point refusal
IsChangeAnswer old new entry (Err Memory) = IsWanting old new entry
