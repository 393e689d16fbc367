pub mod Cuts
pub mod Passing
pub mod LineKindLemmas
