pub mod First
pub mod Counting
pub mod RatioLemmas
