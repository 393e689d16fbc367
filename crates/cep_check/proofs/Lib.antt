pub mod Options
pub mod Verdicts
pub mod Differences
pub mod OneCause
