pub mod Scopes
pub mod Programs
pub mod EarliestPlaces
pub mod NameLaws
pub mod OneAnswer
pub mod RuleParts
