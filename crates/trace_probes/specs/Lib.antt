pub mod Numerals
pub mod Fields
pub mod Tables
pub mod Shown
pub mod inside
