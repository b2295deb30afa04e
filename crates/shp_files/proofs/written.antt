pub mod Puts
pub mod WrittenRows
pub mod WrittenFields
pub mod WrittenIndex
pub mod WrittenLayer
pub mod WrittenRings
