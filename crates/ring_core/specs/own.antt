-- Words of the code's own bookkeeping: no public contract speaks of them, and a reader need not believe them.
pub mod Kinds
pub mod EdgePairs
pub mod Blocks
pub mod ByPlace
pub mod Sorted
