pub mod Days
pub mod Limits
pub mod Local
pub mod Nets
