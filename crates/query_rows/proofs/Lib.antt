pub mod Values
pub mod RowLaws
pub mod StillLaws
