pub mod Lists
pub mod NetSums
pub mod RowGaps
pub mod RowLists
pub mod NewLimits
pub mod SameRows
pub mod Alikes
