pub mod OrderLaws
pub mod BlockEdits
pub mod MatchingLaws
pub mod Multisets
