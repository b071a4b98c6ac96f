pub mod Entries
pub mod Evidence
pub mod Handles
pub mod Working
