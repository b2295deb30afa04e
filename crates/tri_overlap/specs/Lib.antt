pub mod Separation
pub mod Folding
pub mod own
