pub mod Factors
pub mod Written
pub mod Tables
