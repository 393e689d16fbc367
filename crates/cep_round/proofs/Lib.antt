pub mod Rests
pub mod Places
pub mod Admitted
pub mod Orders
