pub mod Table
pub mod own
