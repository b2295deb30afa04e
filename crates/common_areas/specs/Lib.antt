pub mod Fractions
pub mod Between
pub mod Common
pub mod Grid
pub mod Sums
