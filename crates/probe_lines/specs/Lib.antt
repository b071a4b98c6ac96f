pub mod Lines
pub mod Timers
pub mod Servers
pub mod Marks
