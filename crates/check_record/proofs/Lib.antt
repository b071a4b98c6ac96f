pub mod AgreedLemmas
mod PastLemmas
mod ReadLemmas
mod ShownLemmas
