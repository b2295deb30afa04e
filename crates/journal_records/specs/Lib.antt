pub mod Journals
pub mod Tails
pub mod Words
