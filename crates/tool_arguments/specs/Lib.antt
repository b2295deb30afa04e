pub mod Arguments
pub mod Bases
pub mod Requests
