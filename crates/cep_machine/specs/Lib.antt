pub mod Configuration
pub mod Asking
pub mod Stepping
