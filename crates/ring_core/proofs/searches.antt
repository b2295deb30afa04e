pub mod LeaningBoxes
pub mod RightOfEdges
pub mod PlacedEdges
pub mod BlocksKept
pub mod BlocksMade
pub mod Sorted
pub mod Sides
pub mod Cores
