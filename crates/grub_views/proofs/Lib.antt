pub mod Rowing
pub mod Handing
pub mod Closing
pub mod Chunking
pub mod Viewed
pub mod Counting
