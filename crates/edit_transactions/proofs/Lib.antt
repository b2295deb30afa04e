pub mod Turns
pub mod Told
pub mod OneBook
