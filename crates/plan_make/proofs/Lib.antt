pub mod Bills
pub mod Days
pub mod Gathering
pub mod Fronts
pub mod Worked
