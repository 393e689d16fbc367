pub mod States
pub mod Adding
