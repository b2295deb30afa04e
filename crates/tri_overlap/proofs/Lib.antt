pub mod Convex
pub mod Dependence
pub mod Radon
pub mod Helly
pub mod SeparatedTriangles
pub mod Farthest
pub mod Halves
pub mod Boxes
pub mod Numbered
pub mod RingPairs
pub mod Unfolded
mod Separators
