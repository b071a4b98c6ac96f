pub mod Activity
pub mod Server
pub mod Effects
pub mod Throttle
pub mod Wakes
pub mod Tasks
pub mod Notes
pub mod Observations
