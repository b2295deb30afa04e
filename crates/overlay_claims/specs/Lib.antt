pub mod Claims
pub mod Claimants
pub mod own
