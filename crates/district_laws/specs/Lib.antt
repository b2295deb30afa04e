pub mod Districts
pub mod Live
pub mod Zones
