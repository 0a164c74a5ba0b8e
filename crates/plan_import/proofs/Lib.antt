pub mod Records
pub mod Laid
