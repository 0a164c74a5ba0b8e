-- What a base is: the records that a run begins with.
use Rattle.std.specs.Prelude.{ℕ, Bool, true, false, ◌&&◌, nat_le, length, count_by, is_some}
use Rattle.plan_schema.specs.declared.key.Key.{Key}
use Rattle.plan_schema.specs.declared.key.Key.TheVariants as keys
use Rattle.plan_schema.specs.Contents.{Contents, record_at, is_ordered}
use Rattle.plan_schema.specs.Sound.{are_sound_rows}
use Rattle.plan_schema.specs.declared.limits.TheConstants.{PART_LIMIT, RECORD_LIMIT}

abbrev pub is_part_key : Key → Bool
is_part_key (keys.Part name) = true
is_part_key _ = false

-- how many parts there are
abbrev pub part_count : Contents → ℕ
part_count contents = count_by (λ row. is_part_key row.0) contents

-- the contents have a horizon
abbrev pub has_horizon : Contents → Bool
has_horizon contents = is_some (record_at contents keys.Plan)

-- contents that a run can begin with: sound rows in key order, a horizon, and no more parts and records than there may be
abbrev pub is_base : Contents → Bool
is_base contents =
    is_ordered contents && are_sound_rows contents && has_horizon contents && nat_le (part_count contents) PART_LIMIT && nat_le (length contents) RECORD_LIMIT
