pub mod Pegs
pub mod Laws
