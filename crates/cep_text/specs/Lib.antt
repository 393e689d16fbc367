pub mod Texts
pub mod Writing
pub mod Reads
pub mod StageNames
pub mod Reading
pub mod NameTables
