pub mod Whys
pub mod Deads
