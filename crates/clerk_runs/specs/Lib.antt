pub mod ClerkFiles
pub mod ClerkLines
pub mod ClerkRuns
pub mod PlaceTexts
pub mod own
pub use Rattle.line_files.specs.ClerkFile
pub use Rattle.desk_lock.specs.Offices
pub use Rattle.text_pieces.specs.RingFaultText
