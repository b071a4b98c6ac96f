pub mod Names
pub mod inside
