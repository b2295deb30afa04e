pub mod Wholes
pub mod Given
pub mod Once
pub mod Aligned
pub mod Zips
pub mod ParcelLines
pub mod Tables
pub mod SlicePairs
