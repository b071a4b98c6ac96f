pub mod Keeping
pub mod Touches
