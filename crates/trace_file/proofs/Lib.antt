mod ReadLemmas
pub mod SoLemmas
