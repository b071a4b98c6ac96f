pub mod TimedLemmas
pub mod VerdictLemmas
