-- The edge of a ring that rows tile.
pub mod Nodings
pub mod OneWay
pub mod OnRows
pub mod Triangles
pub mod Within
