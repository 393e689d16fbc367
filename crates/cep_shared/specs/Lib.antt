pub mod Asked
pub mod Codes
pub mod Derived
pub mod Falling
pub mod Links
pub mod Shared
pub mod Sizes
pub mod Unasked
