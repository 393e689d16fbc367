pub mod GapLemmas
pub mod Steps
pub mod Unique
pub mod Lexed
