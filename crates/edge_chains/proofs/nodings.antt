pub mod NodedEdges
pub mod NodedRings
pub mod NodedLists
pub mod EachNoded
pub mod Slices
