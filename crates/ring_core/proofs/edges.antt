pub mod EdgePoints
pub mod CommonPoints
pub mod DoubledBack
pub mod RoundNumbers
pub mod CornersRead
pub mod Neighbours
pub mod Corners
pub mod EdgeNumbers
