pub mod Quotients
pub mod EdgeLines
pub mod Counts
pub mod Gaps
pub mod Losses
