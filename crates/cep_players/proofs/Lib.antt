pub mod BlockedLines
pub mod RoundsThere
pub mod Going
pub mod OneInRounds
