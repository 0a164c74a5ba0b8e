pub mod Shortages
pub mod Windows
pub mod Inputs
pub mod DayByDay
pub use Rattle.planning_rules.specs.Netting
pub use Rattle.plan_schema.specs.Sound
