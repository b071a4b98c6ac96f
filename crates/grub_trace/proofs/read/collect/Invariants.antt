use Rattle.grub_trace.specs.declared.tasks.Tasks.{Tasks}
use Rattle.grub_trace.specs.inside.Bodies.{AreRead}
use Rattle.grub_trace.proofs.HeadLaws.{CollectsOn}
use Rattle.grub_trace.proofs.read.collect.Given as goal

abbrev pub invariant-loop-body : goal.invariant-loop-body
invariant-loop-body l = (t : Tasks) → AreRead t l.fn.bodies.items → CollectsOn t l.files.items l.yielded l.fn.bodies.items
