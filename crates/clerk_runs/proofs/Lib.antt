pub mod ClerksRead
pub mod Submitted
pub mod EachTold
pub mod Windows
pub mod Places
pub mod Taken
pub mod FewClerks
pub mod Crossing
