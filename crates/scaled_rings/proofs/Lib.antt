pub mod Scaling
pub mod Lists
pub mod Points
pub mod Simple
pub mod Nets
pub mod TenEdits
pub mod Farthest
