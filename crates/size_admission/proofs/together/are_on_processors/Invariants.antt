use Rattle.std.proofs.Common.{◌<◌, All, take}
use Rattle.size_admission.proofs.together.are_on_processors.Given as goal

abbrev pub invariant-loop-one : goal.invariant-loop-one
invariant-loop-one l = All (λ one. one.processor < l.processors) (take l.one-index l.placed)
