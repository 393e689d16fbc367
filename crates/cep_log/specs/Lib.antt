pub mod Codes
pub mod Listed
pub mod Legal
pub mod Transcript
pub mod Written
pub mod Holding
