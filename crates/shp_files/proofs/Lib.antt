pub mod numbers
pub mod lines
pub mod rings
pub mod layers
pub mod written
