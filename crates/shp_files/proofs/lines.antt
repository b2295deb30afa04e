pub mod Lines
pub mod FoundAmongLines
pub mod WhatPasses
pub mod ReachedRecords
pub mod IndexChecked
pub mod Answered
pub mod Rows
