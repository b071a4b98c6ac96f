mod LossLemmas
mod TextLemmas
