pub mod Cards
pub mod own
