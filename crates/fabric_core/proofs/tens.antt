pub mod Corners
pub mod Rows
pub mod Journals
pub mod Kept
pub mod Farthest
