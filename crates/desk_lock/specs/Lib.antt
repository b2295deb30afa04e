pub mod Offices
pub mod Places
pub mod own
