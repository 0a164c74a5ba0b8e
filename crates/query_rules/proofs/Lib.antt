pub mod Selecting
pub mod Worked
