pub mod Shapes
pub mod Heads
pub mod Meaning
pub mod Places
pub mod States
pub mod Resolved
pub mod Built
