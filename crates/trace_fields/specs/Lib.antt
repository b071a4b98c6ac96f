pub mod Numbers
pub mod Words
pub mod Opening
pub mod Head
pub mod Shown
pub mod inside
