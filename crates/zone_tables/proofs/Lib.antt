pub mod Zonings
pub mod FromParcel
pub mod Zones
pub mod Told
pub mod HandedBack
