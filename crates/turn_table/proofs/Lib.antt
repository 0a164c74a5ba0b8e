pub mod Sums
pub mod Stories
pub mod Queue
pub mod Names
pub mod History
pub mod Holders
pub mod Moves
pub mod Opening
