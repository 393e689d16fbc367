pub mod Looping
pub mod Deciding
pub mod Numbering
