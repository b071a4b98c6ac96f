use Rattle.std.proofs.Common.{length}
use Rattle.grub_trace.specs.inside.Reading.{declarations}
use Rattle.grub_trace.proofs.HeadLaws.{TasksOn}
use Rattle.grub_trace.proofs.head.read_tasks.Given as goal

abbrev pub invariant-loop-line : goal.invariant-loop-line
invariant-loop-line l = TasksOn l.version (declarations l.fn.tasks) l.tasks l.first l.rest l.text

abbrev pub decreases-loop-line : goal.decreases-loop-line
decreases-loop-line l = length l.rest
