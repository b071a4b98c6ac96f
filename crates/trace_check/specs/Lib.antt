pub mod Timed
pub mod Uncompared
pub mod Untried
