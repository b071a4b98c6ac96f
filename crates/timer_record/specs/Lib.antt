pub mod Votes
pub mod Timers
pub mod Kept
pub mod Passing
pub mod Records
pub mod Given
pub mod Late
pub mod Moments
