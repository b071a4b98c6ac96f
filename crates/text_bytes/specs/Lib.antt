pub mod Digits
pub mod Lines
pub mod Source
pub mod Writing
pub mod inside
