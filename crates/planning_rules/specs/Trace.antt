-- Full pegging: for which independent demands the planned units of a part are meant. What there is of a part serves its demand in turn,
-- unit by unit, and what a parent asks for is followed on through the parent's own planned units (the exact form is this product's own).
use Rattle.std.specs.Prelude.{ℕ, zero, suc, ◌+◌, ◌/◌, List, [], ◌++◌, Bool, false, ◌&&◌, nat_lt, Option, Some, None, map, filter, count_by, sum, take, slice_index, slice_index_or}
use Rattle.std.specs.List.{range_with_len, flat_map, filter_map}
use Rattle.plan_schema.specs.declared.name.Name.{Name}
use Rattle.plan_schema.specs.declared.key.Key.{Key}
use Rattle.plan_schema.specs.declared.key.Key.TheVariants as keys
use Rattle.plan_schema.specs.declared.key.Record.{Record}
use Rattle.plan_schema.specs.declared.key.Record.TheVariants as records
use Rattle.plan_schema.specs.Key.{name_eq}
use Rattle.plan_schema.specs.Contents.{Contents, record_at}
use Rattle.planning_rules.specs.Bills.{longest_chain}
use Rattle.planning_rules.specs.Days.{days_of}
use Rattle.planning_rules.specs.Plan.{Known, Planned, plan, released, stock_in}
use Rattle.planning_rules.specs.Pegs.{Peg, FromDemand, FromParent, pegs_from}

-- where a unit ends: at an independent demand, by its part and its order, or as surplus of a part
pub data End : Type 0 where
  AtDemand : Name → Name → End
  Surplus : Name → End

abbrev pub same_end : End → End → Bool
same_end (AtDemand part order) (AtDemand other other_order) = name_eq part other && name_eq order other_order
same_end (Surplus part) (Surplus other) = name_eq part other
same_end _ _ = false

-- where the unit at a place of the demand of n ends: past the end of the demand, as surplus of n
abbrev pub end_at : Name → List End → ℕ → End
end_at n ends place = slice_index_or ends place (Surplus n)

-- the quantity per of a bill
abbrev pub per_in : Option Record → ℕ
per_in (Some (records.Bill per span)) = per
per_in _ = 0

-- where the units of a peg of n on day t end. Those that a parent asks for go into the units that it releases on the day, the first
-- `per` of them into the first of these, and so on. A part's released units are its planned units under the same numbers, counted
-- from 0, and `ends` tells where these end
abbrev pub peg_ends : (Name → List End) → (Name → Option Known) → Contents → Name → ℕ → Peg → List End
peg_ends ends plans c n t (FromDemand order qty) = map (λ unit. AtDemand n order) (range_with_len 0 qty)
peg_ends ends plans c n t (FromParent p qty) =
    map (λ unit. end_at p (ends p) (sum (take t (released (plans p))) + unit / per_in (record_at c (keys.Bill p n)))) (range_with_len 0 qty)

-- where the units of the demand of n end, day by day, and peg by peg on each day
abbrev pub demand_ends : (Name → List End) → (Name → Option Known) → Contents → Name → List End
demand_ends ends plans c n = flat_map (λ t. flat_map (peg_ends ends plans c n t) (pegs_from plans c n t)) (range_with_len 0 (days_of c))

-- where the planned units of day t end. Before them come what is on hand, what is scheduled up to the day, and what is planned before
abbrev pub ends_on : Name → ℕ → Option Known → List End → ℕ → List End
ends_on n stock (Some (Planned x)) demand t =
    map (λ unit. end_at n demand ((stock + sum (take (suc t) x.sched)) + (sum (take t x.planned) + unit))) (range_with_len 0 (slice_index x.planned t))
ends_on n stock _ demand t = []

-- where the planned units of day t of n end, where the ends of its parents' units are known
abbrev pub day_ends : (Name → List End) → (Name → Option Known) → Contents → Name → ℕ → List End
day_ends ends plans c n t = ends_on n (stock_in (record_at c (keys.Stock n))) (plans n) (demand_ends ends plans c n) t

-- where all planned units of n end, by their numbers, where chains of so many names are followed
abbrev pub ends_within : ℕ → Contents → Name → List End
ends_within zero c n = []
ends_within (suc names) c n = flat_map (day_ends (ends_within names c) (plan c) c n) (range_with_len 0 (days_of c))

abbrev pub ends_of : Contents → Name → List End
ends_of c n = ends_within (longest_chain c) c n

-- the end that an independent demand is, and the surplus that a part has
abbrev pub demand_end : (Key × Record) → Option End
demand_end (keys.Demand part order, value) = Some (AtDemand part order)
demand_end _ = None

abbrev pub surplus_end : (Key × Record) → Option End
surplus_end (keys.Part part, value) = Some (Surplus part)
surplus_end _ = None

-- how many of some units end where, first the demands by part and order, then the surpluses by part, each with a quantity above 0
abbrev pub shares : Contents → List End → List (End × ℕ)
shares c units = filter (λ share. nat_lt 0 share.1) (map (λ end. (end, count_by (same_end end) units)) (filter_map demand_end c ++ filter_map surplus_end c))

-- where the planned receipt of n on day t ends
abbrev pub trace : Contents → Name → ℕ → List (End × ℕ)
trace c n t = shares c (day_ends (ends_of c) (plan c) c n t)
