pub mod tilings
pub mod loads
pub mod edits
pub mod rows
pub mod places
pub mod tens
pub mod Crossing
