pub mod Clock
pub mod Ratio
pub mod Start
pub mod Kinds
pub mod Tallies
pub mod Firsts
pub mod Settings
pub mod inside
