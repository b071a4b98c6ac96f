pub mod Called
pub mod Claims
pub mod Ended
pub mod Opened
pub mod Owned
pub mod inside
