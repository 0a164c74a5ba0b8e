pub mod Cut
pub mod Names
pub mod Parser
pub mod Rounds
pub mod Words
