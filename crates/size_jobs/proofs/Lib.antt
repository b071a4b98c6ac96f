mod NameLemmas
mod TaskLemmas
