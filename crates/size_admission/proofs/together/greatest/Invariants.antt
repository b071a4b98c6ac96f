use Rattle.std.proofs.Common.{◌≤◌, All, take}
use Rattle.size_admission.specs.Together.{bandwidth_of}
use Rattle.size_admission.proofs.together.greatest.Given as goal

abbrev pub invariant-loop-one : goal.invariant-loop-one
invariant-loop-one l = All (λ p. bandwidth_of p ≤ l.most) (take l.one-index l.proposals)
