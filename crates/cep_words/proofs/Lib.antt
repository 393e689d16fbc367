pub mod Decimals
pub mod OneRequest
