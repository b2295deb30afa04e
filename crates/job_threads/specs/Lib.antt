pub mod Jobs
pub mod own
