-- The records of a base are whole, and within the limits.
use Rattle.std.proofs.Common.{◌≡◌, ℕ, ◌≤◌, length, true, ◌&&◌, nat_le, arith}
use Rattle.std.proofs.lemmas.Bool.{and_parts}
use Rattle.std.proofs.lemmas.Bool.Decides.{nat_tests}
use Rattle.plan_schema.specs.Base.{is_base, part_count, has_horizon}
use Rattle.plan_schema.specs.declared.limits.TheConstants.{PART_LIMIT, RECORD_LIMIT}
use Rattle.plan_schema.specs.Contents.{Contents, is_ordered}
use Rattle.plan_schema.specs.Sound.{are_sound_rows}
use Rattle.scenario_rules.specs.Whole.{AreWholeContents, AreWithinLimits}

-- what a base is, part by part
pub record IsBase (c : Contents) : Type 0 where
  pub ordered : is_ordered c ≡ true
  pub sound : are_sound_rows c ≡ true
  pub horizon : has_horizon c ≡ true
  pub parts : part_count c ≤ PART_LIMIT
  pub records : length c ≤ RECORD_LIMIT

pub base_parts : (c : Contents) → is_base c ≡ true → IsBase c
base_parts c h =
    let first = and_parts (is_ordered c && are_sound_rows c && has_horizon c && nat_le (part_count c) PART_LIMIT) (nat_le (length c) RECORD_LIMIT) h in
    let second = and_parts (is_ordered c && are_sound_rows c && has_horizon c) (nat_le (part_count c) PART_LIMIT) first.0 in
    let third = and_parts (is_ordered c && are_sound_rows c) (has_horizon c) second.0 in
    let last = and_parts (is_ordered c) (are_sound_rows c) third.0 in
    record { ordered = last.0; sound = last.1; horizon = third.1; parts = at_most (part_count c) PART_LIMIT second.1; records = at_most (length c) RECORD_LIMIT first.1 }
  where
    at_most : (n most : ℕ) → nat_le n most ≡ true → n ≤ most
    at_most n most h = grind (arith, nat_tests)

pub base_is_whole : (c : Contents) → is_base c ≡ true → AreWholeContents c
base_is_whole c h = let p = base_parts c h in record { ordered = p.ordered; sound = p.sound; horizon = p.horizon }

pub base_is_within : (c : Contents) → is_base c ≡ true → AreWithinLimits c
base_is_within c h = let p = base_parts c h in record { parts = p.parts; records = p.records }
