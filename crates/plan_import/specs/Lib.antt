pub mod BaseFile
pub mod Told
pub mod Imported
pub use Rattle.plan_schema.specs.Base
pub use Rattle.plan_schema.specs.Outside
