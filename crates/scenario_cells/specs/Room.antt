-- Whether contents have more parts and records than they may, by counts that are kept.
use Rattle.std.specs.Prelude.{◌≡◌, ℕ, ◌+◌, ◌≤◌, ◌&&◌, Bool, if◌then◌else◌, [], ◌∷◌, length, nat_lt, Option}
use Rattle.plan_schema.specs.declared.key.Key.{Key}
use Rattle.plan_schema.specs.declared.limits.TheConstants.{PART_LIMIT, RECORD_LIMIT}
use Rattle.plan_schema.specs.declared.refusal.Refusal.{Refusal}
use Rattle.plan_schema.specs.declared.refusal.Refusal.TheVariants as refusals
use Rattle.plan_schema.specs.declared.refusal.Room.TheVariants as rooms
use Rattle.plan_schema.specs.Base.{is_part_key, part_count}
use Rattle.plan_schema.specs.Contents.{Contents}
use Rattle.plan_schema.specs.Refusals.{first_of, where_so}
use Rattle.scenario_rules.specs.World.{OwnChanges, laid_over}
use Rattle.scenario_cells.specs.declared.room.Tally.{Tally}

-- the refusal of so many parts and records
abbrev pub refused_counts : ℕ → ℕ → Option Refusal
refused_counts parts records =
    first_of (where_so (nat_lt PART_LIMIT parts) (refusals.Full rooms.Parts) ∷ where_so (nat_lt RECORD_LIMIT records) (refusals.Full rooms.Records) ∷ [])

-- the refusal of contents
abbrev pub refused_contents : Contents → Option Refusal
refused_contents contents = refused_counts (part_count contents) (length contents)

-- one more change is tallied: whether there was a row under its key, and whether there is one after it
abbrev pub next_tally : Tally → Key → Bool → Bool → Tally
next_tally t key had has = record {
  parts_before = t.parts_before + (if (had && is_part_key key) then 1 else 0);
  parts_after = t.parts_after + (if (has && is_part_key key) then 1 else 0);
  rows_before = t.rows_before + (if had then 1 else 0);
  rows_after = t.rows_after + (if has then 1 else 0);
}

-- no count is above this
pub record AreAtMost (most : ℕ) (t : Tally) : Type 0 where
  pub parts_before : t.parts_before ≤ most
  pub parts_after : t.parts_after ≤ most
  pub rows_before : t.rows_before ≤ most
  pub rows_after : t.rows_after ≤ most

-- the changes that are done are tallied
pub record IsTallied (contents : Contents) (done : OwnChanges) (t : Tally) : Type 0 where
  pub parts : part_count (laid_over contents done) + t.parts_before ≡ part_count contents + t.parts_after
  pub records : length (laid_over contents done) + t.rows_before ≡ length contents + t.rows_after
  pub few : AreAtMost (length done) t
