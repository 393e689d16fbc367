pub mod Reasons
pub mod First
pub mod Told
