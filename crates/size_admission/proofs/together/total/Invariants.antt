use Rattle.std.proofs.Common.{◌≡◌, min, take}
use Rattle.std.specs.List.{sum_by}
use Rattle.size_admission.specs.Together.{bandwidth_of}
use Rattle.size_admission.proofs.together.total.Given as goal

abbrev pub invariant-loop-one : goal.invariant-loop-one
invariant-loop-one l = l.sum ≡ min (sum_by bandwidth_of (take l.one-index l.proposals)) 18446744073709551615
