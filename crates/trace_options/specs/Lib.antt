pub mod Words
pub mod Settings
pub mod inside
pub mod Faults
pub mod Messages
