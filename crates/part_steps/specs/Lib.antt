pub mod Steps
pub mod Holidays
pub mod Laws
