pub mod GridRows
pub mod Coordinates
pub mod Doubles
pub mod DoubleRows
