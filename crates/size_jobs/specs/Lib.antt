pub mod Lines
pub mod Taking
pub mod Told
pub mod Watch
pub mod inside
