pub mod Merge
pub mod Playing
pub mod TimeLines
