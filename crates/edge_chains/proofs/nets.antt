pub mod Changes
pub mod Nets
pub mod Firsts
pub mod Unbalanced
pub mod Balance
