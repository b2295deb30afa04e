pub mod edges
pub mod nets
pub mod nodings
pub mod jumps
