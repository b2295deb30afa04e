pub mod InBoxes
pub mod BeyondBoxes
pub mod NearCorners
