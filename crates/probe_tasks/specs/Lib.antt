pub mod Enqueues
pub mod Runs
pub mod Tasks
