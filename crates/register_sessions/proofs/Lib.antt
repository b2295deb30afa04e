pub mod Hands
pub mod Served
pub mod Crossing
