pub mod AreaTexts
