pub mod NumberLemmas
mod WordLemmas
pub mod OpeningLemmas
