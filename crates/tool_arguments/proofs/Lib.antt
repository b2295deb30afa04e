pub mod CornerWords
