pub mod Laws
pub mod Weights
pub mod Rows
pub mod Following
pub mod Ends
pub mod Walking
pub mod Shares
