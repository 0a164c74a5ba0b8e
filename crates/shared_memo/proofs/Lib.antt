pub mod CallerLemmas
pub mod Mapped
