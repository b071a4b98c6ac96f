pub mod Places
pub mod Kernels
pub mod Turns
pub mod States
pub mod Events
pub mod Notes
pub mod Opening
pub mod Playing
