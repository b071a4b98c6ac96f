pub mod Digits
pub mod Handing
pub mod RoomLemmas
pub mod Rounds
pub mod SourceLemmas
pub mod Splits
