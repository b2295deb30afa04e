pub mod Located
pub mod FromOneCell
pub mod Between
pub mod InCells
pub mod Hinted
