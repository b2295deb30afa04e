-- Words of the code's own bookkeeping: no public contract speaks of them, and a reader need not believe them.
pub mod Exports
pub mod Operators
pub mod Overlays
pub mod OwnFiles
pub mod Posts
