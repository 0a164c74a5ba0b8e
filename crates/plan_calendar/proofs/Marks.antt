-- Which days work, holiday by holiday.
use Rattle.std.proofs.Common.{◌≡◌, ℕ, ◌+◌, ◌<◌, ◌≤◌, Bool, false, List, length, take, ◌∙◌, arith}
use Rattle.std.specs.Prelude.{slice_index_or}
use Rattle.std.proofs.lemmas.List.{get_or-take, length-take-le}
use Rattle.std.proofs.lemmas.List.FromFn.{fill_by_all}
use Rattle.plan_calendar.specs.Weeks.{week_works, worked_days}

-- days that are told one by one are the list of them
pub all_days : (start days : ℕ) (week : List Bool) (holidays : List ℕ) (works : List Bool) → days ≤ 400 → length works ≡ 400
    → ((t : ℕ) → t < days → slice_index_or works t false ≡ week_works week holidays (start + t)) → take days works ≡ worked_days start days week holidays
all_days start days week holidays works few len each =
    fill_by_all (λ t. week_works week holidays (start + t)) (take days works) days false (length-take-le days works (omega (arith, len)))
    (λ k h. get_or-take days works k false h ∙ each k h)
