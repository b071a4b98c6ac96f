pub mod Numbers
pub mod Speed
pub mod Verdicts
