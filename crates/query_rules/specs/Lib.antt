pub mod Queries
pub mod Lines
pub mod Laws
pub use Rattle.planning_rules.specs.Plan
pub use Rattle.query_language.specs.Trees
