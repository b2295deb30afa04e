pub mod Behind
pub mod Clerks
pub mod FirstEntries
pub mod Told
pub mod Totals
