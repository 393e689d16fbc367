pub mod Weights
pub mod WeightRuns
pub mod Claims
pub mod Tables
