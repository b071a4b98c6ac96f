pub mod Messages
pub mod Ran
pub mod Showing
pub mod Telling
