pub mod Bills
pub mod Names
