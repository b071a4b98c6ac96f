-- What the code of the flat book stands on, and no public contract cites.
pub mod Better
pub mod Moves
pub mod Ready
pub mod Rebasing
pub mod Sums
