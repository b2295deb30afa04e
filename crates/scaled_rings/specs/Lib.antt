pub mod Tenfold
pub mod TenfoldEdits
