pub mod Grown
pub mod Faults
pub mod Tree
