pub mod Looks
pub mod Notes
