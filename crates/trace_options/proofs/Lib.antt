mod CutLemmas
mod TaskLemmas
mod MessageLemmas
pub mod StatusLemmas
