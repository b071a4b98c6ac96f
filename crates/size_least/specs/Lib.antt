pub mod Span
pub mod Jobs
pub mod Least
pub mod inside
pub mod Heights
pub mod Needs
pub mod Plays
