-- Words of the code's own bookkeeping: no public contract speaks of them, and a reader need not believe them.
pub mod AreaTexts
pub mod LayerFaults
pub mod Told
