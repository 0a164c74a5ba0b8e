pub mod Machine
pub mod Replies
pub mod Runs
pub mod Laws
