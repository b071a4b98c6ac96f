pub mod Bodies
pub mod Faults
pub mod Forms
pub mod Heads
pub mod Lines
pub mod Planning
pub mod Reading
pub mod Tree
