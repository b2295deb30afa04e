pub mod Beginnings
mod OneEntryMore
