pub mod Files
pub mod Writers
pub mod Ends
