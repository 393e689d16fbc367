pub mod Placing
pub mod RulesInTurn
pub mod Drafting
pub mod HeldOnce
