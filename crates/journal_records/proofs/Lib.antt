pub mod Records
pub mod Torn
pub mod Words
