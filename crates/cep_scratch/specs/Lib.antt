pub mod Partial
pub mod Search
pub mod Groups
pub mod Scratch
pub mod First
pub mod Candidates
