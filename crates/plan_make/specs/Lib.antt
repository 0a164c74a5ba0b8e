pub mod Numbers
pub mod Base
pub mod Input
pub mod Made
pub use Rattle.plan_schema.specs.Outside
