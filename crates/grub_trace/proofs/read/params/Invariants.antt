use Rattle.std.proofs.Common.{◌≡◌, map, take}
use Rattle.grub_trace.proofs.read.params.Given as goal

abbrev pub invariant-loop-task : goal.invariant-loop-task
invariant-loop-task l = l.params.items ≡ map (λ t. t.params) (take l.task-index l.tasks)
