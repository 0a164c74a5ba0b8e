pub mod Horizons
pub mod OwnPegs
pub mod ParentLists
