pub mod Explains
pub mod FirstFault
pub mod Lost
pub mod Playing
pub mod Reading
pub mod Seen
pub mod Shown
pub mod Timed
