pub mod Entries
pub mod Evidence
pub mod Runs
pub mod Apart
pub mod Messages
pub mod inside
