-- What the code stands on, and no public contract cites.
pub mod Keeping
