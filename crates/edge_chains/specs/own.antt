-- Words of the code's own bookkeeping: no public contract speaks of them, and a reader need not believe them.
pub mod Blocks
pub mod Inside
pub mod Lines
pub mod Sides
pub mod Slices
pub mod Steps
pub mod Tree
