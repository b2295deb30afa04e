pub mod Net
pub mod Counts
pub mod Unbalanced
pub mod Noding
pub mod Jump
pub mod own
