pub mod Factors
pub mod Keywords
pub mod Names
pub mod Plain
pub mod Projections
pub mod Tokens
pub mod own
