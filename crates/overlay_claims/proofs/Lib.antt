pub mod Counts
pub mod Places
pub mod Views
pub mod Steps
pub mod Orders
pub mod Spread
