pub mod Asked
pub mod DeskAnswers
pub mod Kept
pub mod Rooms
pub mod Starts
pub mod ClerkEdits
pub mod Lines
