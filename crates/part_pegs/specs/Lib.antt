pub mod Planned
pub mod ParentLists
pub mod Held
