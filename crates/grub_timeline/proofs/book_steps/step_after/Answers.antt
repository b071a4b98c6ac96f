use Rattle.std.proofs.Common.{ap}
use Rattle.grub_timeline.proofs.Stepping.{call_step}
use Rattle.grub_timeline.proofs.book_steps.step_after.Goals as goal

pub returns-clause-records : goal.returns-clause-records
returns-clause-records c = rw c.in-Call.is (ap (λ p. p.0) c.apply.ensures.step)

pub returns-clause-value : goal.returns-clause-value
returns-clause-value c =
    call_step c.args.book.now.setup c.args.book.now.records c.apply.new.self.records c.args.x.now c.in-Call.t c.in-Call.op
    c.record-before.result c.record-place.result c.queue_or-stood.result c.queue_or-queue.result c.read-reading.result
    c.in-Call.is (ap (λ p. p.0) c.apply.ensures.step) c.record-before.ensures.value c.record-place.ensures.value
    c.queue_or-stood.ensures c.queue_or-queue.ensures c.read-reading.ensures.value
