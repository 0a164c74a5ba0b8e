pub mod Jobs
pub mod Collects
pub mod Names
pub mod Laws
