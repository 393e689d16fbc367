pub mod Ready
pub mod Entries
