pub mod Words
pub mod Numerals
pub mod Adding
pub mod Requests
