pub mod Names
pub mod Compared
pub mod Days
pub mod Dates
pub mod Orders
pub mod Writes
pub mod DayLaws
