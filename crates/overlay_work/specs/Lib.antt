pub mod Sharing
pub mod Rounds
pub mod Faults
pub mod own
