pub mod Copies
pub mod own
