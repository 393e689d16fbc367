pub mod LineBytes
pub mod LineRead
pub mod Drawing
