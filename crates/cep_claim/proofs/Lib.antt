pub mod Parted
pub mod Tabled
pub mod Resolved
pub mod Spelled
