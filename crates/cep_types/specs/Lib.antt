pub mod Sites
pub mod Heads
pub mod Met
pub mod Clashes
