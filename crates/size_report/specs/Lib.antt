pub mod Faults
pub mod Needs
pub mod Answers
pub mod Options
pub mod Periods
pub mod inside
