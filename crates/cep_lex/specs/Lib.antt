pub mod Words
pub mod Cuts
pub mod Places
pub mod Fronts
