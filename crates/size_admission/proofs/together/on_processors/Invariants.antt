use Rattle.std.proofs.Common.{◌≡◌, map, take}
use Rattle.size_admission.proofs.together.on_processors.Given as goal

abbrev pub invariant-loop-i : goal.invariant-loop-i
invariant-loop-i l = map (λ one. one.bandwidth) l.placed.items ≡ take l.i l.bandwidths
