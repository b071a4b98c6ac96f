use Rattle.std.proofs.Common.{arith}
use Rattle.grub_trace.proofs.TaskLemmas.{mapped_all, mapped_next}
use Rattle.grub_trace.proofs.read.queues.Goals as goal

pub loop-file-preserved : goal.loop-file-preserved
loop-file-preserved c = mapped_next (λ f. f.queue) c.args.files.now c.loop-file.file-index c.file-item.result c.loop-file.queues.items _ c.loop-file-test.true c.file-item.is c.loop-file.invariant c.in_ok-push.ensures.items

pub returns-clause-queues : goal.returns-clause-queues
returns-clause-queues c = mapped_all (λ f. f.queue) c.args.files.now c.loop-file.file-index c.loop-file.queues.items (omega arith) c.loop-file.invariant
