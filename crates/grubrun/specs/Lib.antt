pub mod Statuses
pub mod Views
pub mod inside
pub mod CommandLine
pub mod ViewWords
