pub mod Parted
pub mod Apart
pub mod LineTexts
pub mod WrittenLogs
pub mod OneWay
pub mod SameLogs
pub mod LegalLogs
pub mod DeedLogs
