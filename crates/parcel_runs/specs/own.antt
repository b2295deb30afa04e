-- Words of the code's own bookkeeping: no public contract speaks of them, and a reader need not believe them.
pub mod Dealing
pub mod LayerFaults
pub mod LinesAndReports
pub mod PlaceTexts
pub mod WrittenParts
