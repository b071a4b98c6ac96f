pub mod FilesLemmas
pub mod Handed
pub mod Known
pub mod OneFile
pub mod PlacedLemmas
pub mod TextLemmas
