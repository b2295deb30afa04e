pub mod numbers
pub mod corners_and_turns
pub mod rings
pub mod boxes
pub mod doubles
pub mod PassedOn
