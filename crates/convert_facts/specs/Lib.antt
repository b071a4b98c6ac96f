pub mod Given
pub mod Reading
pub mod Keeping
pub mod inside
