pub mod Premises
pub mod Misnamed
pub mod Limits
pub mod Faults
pub mod Levels
pub mod Totals
pub mod FactKeys
pub mod Counted
