pub mod Kept
pub mod Steps
pub use Rattle.plan_schema.specs.Outside
pub use Rattle.scenario_rules.specs.Refused
pub use Rattle.turn_table.specs.Story
