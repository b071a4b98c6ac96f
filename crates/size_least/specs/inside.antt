pub mod Queue
pub mod Walk
pub mod Counting
pub mod Rising
