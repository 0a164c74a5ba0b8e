pub mod Cells
pub mod Steps
pub mod Memo
pub mod Walks
pub mod Rights
pub mod Works
