pub mod Declaring
pub mod Meeting
pub mod Turns
