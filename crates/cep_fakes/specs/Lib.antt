pub mod Calls
pub mod CalmConsole
pub mod MemConsole
pub mod MemShelf
