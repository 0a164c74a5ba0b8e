-- A core over the entries of an earlier journal.
use Rattle.std.specs.Prelude.{◌≡◌, ◌≤◌, ℕ, List, [], take, length, Some}
use Rattle.std.specs.List.{slice_get}
use Rattle.plan_schema.specs.declared.change.Entry.{Entry}
use Rattle.plan_schema.specs.declared.refusal.Refusal.{Refusal}
use Rattle.plan_schema.specs.Contents.{Contents}
use Rattle.scenario_rules.specs.Journal.{IsLegal}
use Rattle.scenario_rules.specs.Refused.{refused}
use Rattle.plan_core.specs.State.{State, point_of}
use Rattle.plan_core.specs.Holds.{HoldsFor}
use Rattle.plan_core.specs.Changes.{refusal_of, IsEntered}
use Rattle.plan_core.specs.declared.behind.BehindFault.{BehindFault}
use Rattle.plan_core.specs.declared.behind.BehindFault.TheVariants as faults

-- a core that began with these records and entries, has made others since, and has done nothing else: its memo is empty
pub record HasEntered (base : Contents) (most : ℕ) (earlier entries : List Entry) (core : State) : Type 0 where
  pub base_is : core.base ≡ base
  pub earlier_is : core.earlier ≡ earlier
  pub entries_is : core.entries ≡ entries
  pub pairs_is : core.pairs ≡ []
  pub most_is : core.most ≡ most
  pub netted_is : core.tally.netted ≡ 0
  pub reused_is : core.tally.reused ≡ 0

-- the entry behind the first `point` is the first that is refused, and this is why
pub record IsFirstRefused (base : Contents) (entries : List Entry) (point : ℕ) (refusal : Refusal) : Type 0 where
  pub before : IsLegal base (take point entries)
  pub entry : Entry
  pub at : slice_get entries point ≡ Some entry
  pub first : refused base (take point entries) entry.user entry.change ≡ Some refusal

-- why there is no core over some entries: one is refused, or there was no memory
abbrev pub IsNoCore : Contents → List Entry → BehindFault → Type 0
IsNoCore base entries (faults.Refused point refusal) = IsFirstRefused base entries point refusal
IsNoCore base entries faults.Memory = Unit {0}

-- a core that began with these records has made the first of some entries, so many
pub record HasEnteredFirst (base : Contents) (most : ℕ) (entries : List Entry) (core : State) : Type 0 where
  pub count : ℕ
  pub few : count ≤ length entries
  pub entered : HasEntered base most [] (take count entries) core

-- an entry of an earlier journal was entered, and nothing else was done
abbrev pub HasOneMore : State → State → Entry → Type 0
HasOneMore old new entry = (number : ℕ) × IsEntered old new entry number

-- why it wasn't: it is refused, with the number of entries at which it is, after a legal history, or there was no memory
abbrev pub IsNotEntered : State → Entry → BehindFault → Type 0
IsNotEntered core entry (faults.Refused point refusal) =
    HoldsFor core × (refusal_of core entry.user entry.change ≡ Some refusal) × (point ≡ point_of core)
IsNotEntered core entry faults.Memory = Unit {0}
