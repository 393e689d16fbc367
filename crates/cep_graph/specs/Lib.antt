pub mod Queues
pub mod Traces
pub mod Trails
pub mod BySeed
