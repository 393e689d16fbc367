pub mod TypedLine
pub mod Typed
pub mod Draws
