pub mod Passing
pub mod Spots
pub mod Changes
pub mod Deeds
pub mod Sizes
pub mod Weighing
pub mod StepLaws
