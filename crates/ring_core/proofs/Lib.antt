pub mod edges
pub mod searches
pub mod clipping
pub mod ears
