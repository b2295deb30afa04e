pub mod StartFaults
pub mod own
