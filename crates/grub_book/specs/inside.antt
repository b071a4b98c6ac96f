-- What the code of the book stands on, and no public contract cites.
pub mod Standings
pub mod Steps
