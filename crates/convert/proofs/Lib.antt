mod PrintLemmas
mod ServingLemmas
