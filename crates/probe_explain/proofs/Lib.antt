pub mod Moves
pub mod Prefixes
pub mod Taking
pub mod NothingPendingLemmas
