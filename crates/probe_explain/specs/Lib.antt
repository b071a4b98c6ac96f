pub mod Explained
pub mod Taken
pub mod inside
pub mod NothingPending
