pub mod Orders
pub mod Flags
pub mod Counts
pub mod Waits
pub mod Taking
