pub mod Round
pub mod Edits
pub mod own
