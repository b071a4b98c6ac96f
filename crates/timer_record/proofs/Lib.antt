pub mod BeforeLemmas
mod ComingLemmas
mod FirstLemmas
mod GrowthLemmas
