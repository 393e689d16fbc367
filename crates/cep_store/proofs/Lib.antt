pub mod Storing
pub mod Readers
pub mod Additions
