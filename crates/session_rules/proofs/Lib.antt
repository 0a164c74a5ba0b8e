pub mod SessionLaws
pub mod Printing
pub mod Worked
