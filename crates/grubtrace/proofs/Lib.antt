pub mod AddingLemmas
