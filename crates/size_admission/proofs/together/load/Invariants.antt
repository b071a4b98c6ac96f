use Rattle.std.proofs.Common.{◌≡◌, min, take}
use Rattle.std.specs.List.{sum_by}
use Rattle.size_admission.specs.Together.{share_on}
use Rattle.size_admission.proofs.together.load.Given as goal

abbrev pub invariant-loop-one : goal.invariant-loop-one
invariant-loop-one l = l.sum ≡ min (sum_by (share_on l.processor) (take l.one-index l.placed)) 18446744073709551615
