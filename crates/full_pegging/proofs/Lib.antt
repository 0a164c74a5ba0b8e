mod Everywhere
mod EachEnd
mod Stands
mod Sums
mod ByDays
pub mod SameEnds
mod Spreading
mod InARow
mod MeetingRows
mod Pegged
mod Stretches
mod Waiting
mod Landing
mod PlanFacts
mod Counts
mod Aiming
mod Counting
pub mod Sharing
mod Walked
mod Following
mod Named
mod TraceEnds
