mod Trees
mod Releasing
mod SoFar
pub mod OneOrder
