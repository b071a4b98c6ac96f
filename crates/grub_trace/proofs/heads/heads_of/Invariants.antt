use Rattle.std.proofs.Common.{map}
use Rattle.grub_trace.specs.inside.Bodies.{head_above}
use Rattle.grub_trace.proofs.HeadLaws.{HeadsOn}
use Rattle.grub_trace.proofs.heads.heads_of.Given as goal

abbrev pub invariant-loop-file : goal.invariant-loop-file
invariant-loop-file l = HeadsOn l.tasks (map head_above l.bodies.items) l.file l.files
