pub mod StepLaws
pub mod GroundLaws
pub mod TypedValues
pub mod Copies
pub mod HeadSets
