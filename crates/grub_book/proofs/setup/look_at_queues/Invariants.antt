use Rattle.std.proofs.Common.{ℕ, ◌<◌, get_or}
use Rattle.grub_book.specs.Bandwidth.{IsCapacity}
use Rattle.grub_book.proofs.setup.look_at_queues.Given as goal

abbrev pub invariant-loop-queue : goal.invariant-loop-queue
invariant-loop-queue l = (k : ℕ) → k < l.queue-index → IsCapacity (get_or l.queues k (record { most = 0; extra = 0 }))
