pub mod Asks
pub mod Replies
pub mod Laws
pub mod Planned
pub mod Settled
