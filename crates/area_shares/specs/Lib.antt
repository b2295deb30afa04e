pub mod Shares
pub mod AreaTable
pub mod AreaText
pub mod own
