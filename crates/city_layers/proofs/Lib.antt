pub mod TilingFaults
pub mod AllTiles
pub mod ZonedFaults
