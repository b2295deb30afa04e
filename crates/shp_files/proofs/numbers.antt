pub mod Numbers
pub mod Places
pub mod Sizes
pub mod Within
