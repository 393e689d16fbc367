pub mod Grounding
pub mod Places
pub mod Reaching
pub mod Leading
