pub mod Beginnings
pub mod CornerText
pub mod Pending
pub mod PieceText
pub mod RingFaultText
pub mod own
