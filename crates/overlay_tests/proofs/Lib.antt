pub mod PlainTables
