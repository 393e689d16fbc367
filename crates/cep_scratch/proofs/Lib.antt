pub mod Ordered
pub mod Collecting
pub mod RuleMatches
pub mod Entries
pub mod Owed
