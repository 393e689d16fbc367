pub mod Causes
pub mod Places
pub mod Telling
pub mod Walking
