pub mod Held
pub mod Besides
pub mod Parallels
pub mod Rows
