pub mod JobCells
pub mod Same
pub mod Least
pub mod Refusing
pub mod Rows
pub mod Leveled
pub mod Looking
