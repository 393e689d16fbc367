pub mod Worths
pub mod Factors
pub mod Tabled
pub mod Sums
pub mod Lined
