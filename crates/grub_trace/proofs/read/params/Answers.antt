use Rattle.std.proofs.Common.{arith}
use Rattle.grub_trace.proofs.TaskLemmas.{mapped_all, mapped_next}
use Rattle.grub_trace.proofs.read.params.Goals as goal

pub loop-task-preserved : goal.loop-task-preserved
loop-task-preserved c = mapped_next (λ t. t.params) c.args.tasks.now c.loop-task.task-index c.task-item.result c.loop-task.params.items _ c.loop-task-test.true c.task-item.is c.loop-task.invariant c.in_ok-push.ensures.items

pub returns-clause-params : goal.returns-clause-params
returns-clause-params c = mapped_all (λ t. t.params) c.args.tasks.now c.loop-task.task-index c.loop-task.params.items (omega arith) c.loop-task.invariant
