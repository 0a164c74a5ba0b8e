pub mod Held
pub mod Rows
pub mod Laid
pub mod Room
pub mod Loads
pub mod Grouped
