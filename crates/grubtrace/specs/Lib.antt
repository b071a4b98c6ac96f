pub mod CommandLine
pub mod inside
