pub mod AreaReport
pub mod own
