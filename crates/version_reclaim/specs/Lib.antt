pub mod Live
pub mod Collected
pub mod Reclaimed
