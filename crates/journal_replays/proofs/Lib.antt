pub mod EditsMade
