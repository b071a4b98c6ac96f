-- Texts that gain more.
use Rattle.std.proofs.Common.{ℕ, List, ◌++◌, ap, ◌∙◌, append_assoc}
use Rattle.probe_verdict.specs.Texts.{Extends}

-- step by step
pub through : {old mid new : List ℕ} → Extends old mid → Extends mid new → Extends old new
through {old} first second =
    record { rest = first.rest ++ second.rest; is = second.is ∙ ap (λ t. t ++ second.rest) first.is ∙ append_assoc old first.rest second.rest }
