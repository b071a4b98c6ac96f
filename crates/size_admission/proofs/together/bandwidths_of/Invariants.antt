use Rattle.std.proofs.Common.{◌≡◌, map, take}
use Rattle.size_admission.specs.Together.{bandwidth_of}
use Rattle.size_admission.proofs.together.bandwidths_of.Given as goal

abbrev pub invariant-loop-one : goal.invariant-loop-one
invariant-loop-one l = l.bandwidths.items ≡ map bandwidth_of (take l.one-index l.proposals)
