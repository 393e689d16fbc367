pub mod ClaimLines
pub mod DeadLines
pub mod CauseLines
