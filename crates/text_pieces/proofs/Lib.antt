pub mod Puts
pub mod Sinks
