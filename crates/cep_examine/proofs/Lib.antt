pub mod Reported
pub mod Judging
pub mod Statuses
