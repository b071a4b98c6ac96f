pub mod Steps
pub mod Mapping
pub mod Locks
