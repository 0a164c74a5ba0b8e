pub mod Books
pub mod Answers
pub mod Faults
pub use Rattle.plan_schema.specs.Outside
pub use Rattle.scenario_rules.specs.Refused
pub use Rattle.scenario_rules.specs.Journal
pub use Rattle.turn_table.specs.Story
