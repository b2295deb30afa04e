pub mod Transactions
pub mod own
