pub mod Points
pub mod Ring
pub mod Distinct
pub mod Drawn
pub mod Turned
pub mod KeptCorners
pub mod LeastBounds
