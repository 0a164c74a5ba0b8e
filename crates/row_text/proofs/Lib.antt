pub mod Numbers
pub mod Spellings
pub mod Fields
pub mod Lots
pub mod Rows
pub mod KeyForms
pub mod Fewer
pub mod Worked
