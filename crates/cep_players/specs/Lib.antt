pub mod Runs
pub mod Dialogues
pub mod Playing
pub mod Choosing
pub mod PlayersLaws
pub mod Going
pub mod Said
