pub mod Added
pub mod CauseLines
