pub mod Tables
pub mod Rounds
pub mod Moves
pub mod Shut
pub mod Sets
pub mod Held
pub mod Judged
pub mod Adding
