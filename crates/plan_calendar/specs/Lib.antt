pub mod Weeks
pub use Rattle.planning_rules.specs.Days
