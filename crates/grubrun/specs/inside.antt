pub mod Statuses
pub mod Files
pub mod Rounds
pub mod Views
