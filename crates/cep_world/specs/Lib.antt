pub mod World
pub mod Pieces
