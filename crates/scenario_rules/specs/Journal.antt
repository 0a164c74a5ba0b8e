-- Histories of accepted changes.
use Rattle.std.specs.Prelude.{◌≡◌, ℕ, true, List, take, None, IfSome, slice_get}
use Rattle.plan_schema.specs.declared.change.Entry.{Entry}
use Rattle.plan_schema.specs.Contents.{Contents}
use Rattle.plan_schema.specs.Sound.{is_sound_entry}
use Rattle.scenario_rules.specs.Refused.{refused}

-- each entry is one that the grammar of commands can spell
abbrev pub AreSound : List Entry → Type 0
AreSound history = (k : ℕ) → IfSome (slice_get history k) (λ entry. is_sound_entry entry ≡ true)

-- no entry is refused after the entries before it
abbrev pub AreAccepted : Contents → List Entry → Type 0
AreAccepted base history = (k : ℕ) → IfSome (slice_get history k) (λ entry. refused base (take k history) entry.user entry.change ≡ None)

-- a legal history, from the records that the root began with
pub record IsLegal (base : Contents) (history : List Entry) : Type 0 where
  pub sound : AreSound history
  pub accepted : AreAccepted base history
