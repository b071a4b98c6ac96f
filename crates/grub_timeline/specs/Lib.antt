pub mod Order
pub mod TimeLines
pub mod Messages
pub mod inside
pub mod Fitting
pub mod Past
pub mod Replay
