-- How many of the units that have come to their ends are at an end.
use Rattle.std.specs.Prelude.{ℕ, nat_lt, cond, List, map, filter, sum_by, unwrap_or}
use Rattle.std.specs.Map.{lookup}
use Rattle.std.specs.BTreeMap.{is_at}
use Rattle.plan_schema.specs.declared.key.Key.{Key}
use Rattle.plan_schema.specs.declared.key.Key.TheVariants as keys
use Rattle.plan_schema.specs.Key.{key_cmp}
use Rattle.planning_rules.specs.Trace.{End, AtDemand, Surplus, same_end}
use Rattle.full_pegging.specs.declared.share.Share.{Share}
use Rattle.full_pegging.specs.Following.{shown_share}

-- how many of a share's units are at an end
abbrev pub share_at : End → Share → ℕ
share_at end share = cond (same_end end (shown_share share).0) (shown_share share).1 0

abbrev pub landed_at : List Share → End → ℕ
landed_at landed end = sum_by (share_at end) landed

-- the key of the row that an end is of: of a demand, or of a part that has a surplus
abbrev pub end_key : End → Key
end_key (AtDemand part order) = keys.Demand part order
end_key (Surplus part) = keys.Part part

-- how many are counted at an end, by the keys of ends
abbrev pub counted_at : List (Key × ℕ) → End → ℕ
counted_at counts end = unwrap_or (lookup (is_at (key_cmp (end_key end))) counts) 0

-- how many are at some ends, where there are any
abbrev pub shares_by : (End → ℕ) → List End → List (End × ℕ)
shares_by count ends = filter (λ share. nat_lt 0 share.1) (map (λ end. (end, count end)) ends)
