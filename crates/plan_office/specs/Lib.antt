pub mod Turns
pub mod Calls
pub use Rattle.turn_table.specs.Passes
pub use Rattle.plan_book.specs.Books
pub use Rattle.plan_core.specs.State
