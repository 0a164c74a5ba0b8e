pub mod Pegged
pub mod Local
