-- Why a plan is refused.
use Rattle.std.specs.Prelude.{List, [], ◌∷◌, ◌++◌, Bool, true, false, not, if◌then◌else◌, Option, Some, None, is_some, fold, filter}
use Rattle.std.specs.List.{list_any}
use Rattle.std.specs.Ordering.{is_lt}
use Rattle.plan_schema.specs.declared.name.Name.{Name}
use Rattle.plan_schema.specs.declared.key.Key.TheVariants as keys
use Rattle.plan_schema.specs.declared.key.Record.{Record}
use Rattle.plan_schema.specs.declared.key.Record.TheVariants as records
use Rattle.plan_schema.specs.declared.refusal.Refusal.{Refusal}
use Rattle.plan_schema.specs.declared.refusal.Refusal.TheVariants as refusals
use Rattle.plan_schema.specs.Key.{name_cmp}
use Rattle.plan_schema.specs.Contents.{Contents, record_at}
use Rattle.plan_schema.specs.Refusals.{first_of, where_so, about}
use Rattle.planning_rules.specs.Bills.{all_parents, is_ancestor}
use Rattle.planning_rules.specs.Plan.{Known, Large, plan, has_calendar}

-- the earlier of two names by bytes
abbrev pub earlier : Option Name → Name → Option Name
earlier None n = Some n
earlier (Some m) n = if is_lt (name_cmp n m) then Some n else Some m

-- the least of the names that pass a test
abbrev pub least_name : (Name → Bool) → List Name → Option Name
least_name test names = fold earlier None (filter test names)

abbrev pub is_part : Contents → Name → Bool
is_part c n = is_some (record_at c (keys.Part n))

-- the names in reach: the asked ones and their ancestors
abbrev pub in_reach : Contents → List Name → List Name
in_reach c asked = asked ++ filter (λ a. list_any (λ n. is_ancestor c n a) asked) (all_parents c)

abbrev pub lacks_calendar : Contents → Option Record → Bool
lacks_calendar c (Some (records.Part lead lot safety calendar)) = not (has_calendar c calendar)
lacks_calendar c _ = false

abbrev pub is_cyclic : Contents → Name → Bool
is_cyclic c n = is_ancestor c n n

abbrev pub is_large : Option Known → Bool
is_large (Some Large) = true
is_large _ = false

-- the first refusal that applies to a plan of the asked names, with its least name: an asked name is no part; a name in reach is no
-- part; a part in reach lacks its calendar; a name in reach is its own ancestor; a part in reach is too large
abbrev pub plan_refusal : Contents → List Name → Option Refusal
plan_refusal c asked =
    first_of (about (least_name (λ n. not (is_part c n)) asked) refusals.NoPart
    ∷ about (least_name (λ n. not (is_part c n)) (in_reach c asked)) refusals.MissingPart
    ∷ about (least_name (λ n. lacks_calendar c (record_at c (keys.Part n))) (in_reach c asked)) refusals.MissingCalendar
    ∷ about (least_name (is_cyclic c) (in_reach c asked)) refusals.Cyclic
    ∷ about (least_name (λ n. is_large (plan c n)) (in_reach c asked)) refusals.TooLarge
    ∷ [])

-- a level is refused where the asked name is no part, or a name in reach is its own ancestor
abbrev pub level_refusal : Contents → Name → Option Refusal
level_refusal c n =
    first_of (where_so (not (is_part c n)) (refusals.NoPart n) ∷ about (least_name (is_cyclic c) (in_reach c (n ∷ []))) refusals.Cyclic ∷ [])
