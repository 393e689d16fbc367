pub mod Symbols
pub mod Grammar
pub mod Machine
pub mod Files
pub mod Raw
pub mod Written
