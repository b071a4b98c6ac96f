mod AnswerLemmas
mod OptionLemmas
mod ReadLemmas
