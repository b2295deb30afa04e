pub mod Beside
pub mod EdgeJumps
pub mod Steep
pub mod Level
pub mod Jumps
pub mod Alike
