pub mod Parts
pub mod Edges
pub mod Crossed
pub mod Rounded
