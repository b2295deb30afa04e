pub mod Tilings
pub mod InTheCity
pub mod OneParcel
pub mod InnerPoints
pub mod NearPlaces
pub mod OneRow
pub mod OnOneOnly
