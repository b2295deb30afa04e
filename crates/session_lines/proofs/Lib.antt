pub mod Asked
pub mod OneRequest
