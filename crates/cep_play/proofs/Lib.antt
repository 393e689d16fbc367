pub mod Reported
pub mod Done
pub mod Playing
