pub mod Heads
pub mod Opening
pub mod Sought
pub mod Timers
pub mod Wanted
