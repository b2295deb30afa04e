pub mod Overlap
pub mod Within
pub mod Report
pub mod own
