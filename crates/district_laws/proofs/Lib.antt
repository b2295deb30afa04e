pub mod Sums
pub mod Composed
pub mod OwnLayers
pub mod boundaries
pub mod Located
pub mod Overlapped
pub mod Versions
