pub mod Asks
pub mod Backs
pub mod Completing
pub mod Found
