use Rattle.std.proofs.Common.{◌≡◌}
use Rattle.size_admission.specs.Texts.{processors_text}
use Rattle.size_admission.proofs.proposals.processors_text.Given as goal

abbrev pub invariant-loop-processor : goal.invariant-loop-processor
invariant-loop-processor l = l.out.items ≡ processors_text l.processor l.proposals l.placed
