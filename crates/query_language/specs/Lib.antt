pub mod Words
pub mod Tokens
pub mod Reading
pub mod Trees
pub mod Growing
pub mod Grammar
pub mod Laws
