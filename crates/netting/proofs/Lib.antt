pub mod DayByDay
pub mod NetLaws
pub mod Passed
pub mod Released
pub mod Windows
