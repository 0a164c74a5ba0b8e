pub mod SetLaws
pub mod LiveLaws
pub mod KeptLaws
