use Rattle.std.proofs.Common.{ℕ, ◌<◌, get_or}
use Rattle.grub_book.specs.Bandwidth.{IsReservation}
use Rattle.grub_book.proofs.setup.look_at_tasks.Given as goal

abbrev pub invariant-loop-params : goal.invariant-loop-params
invariant-loop-params l = (k : ℕ) → k < l.params-index → IsReservation (get_or l.tasks k (record { runtime = 0; period = 0 }))
