pub use Rattle.planning_rules.specs.Amounts
pub use Rattle.planning_rules.specs.Shortages
pub use Rattle.plan_schema.specs.Sound
