pub mod Listed
pub mod Later
pub mod Kept
pub mod Joined
