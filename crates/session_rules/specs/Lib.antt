pub mod Requests
pub mod Costs
pub mod Answers
pub mod Sessions
pub mod Runs
pub mod Laws
pub use Rattle.plan_schema.specs.Key
pub use Rattle.plan_schema.specs.Contents
