use Rattle.std.proofs.Common.{ℕ, ◌<◌, get_or}
use Rattle.grub_book.specs.Bandwidth.{IsCapacity}
use Rattle.library_book.specs.Memory.{constants_of}
use Rattle.library_book.specs.Opening.{queue_fault}
use Rattle.library_book.specs.declared.memory.NdRunqueue.{NdRunqueue}
use Rattle.library_book.proofs.Faults.{NoneBefore}
use Rattle.library_book.proofs.opening.fault_of_queues.Given as goal

abbrev pub invariant-loop-cell : goal.invariant-loop-cell
invariant-loop-cell l = record {
  none : NoneBefore queue_fault l.queues l.cell-index;
  each : (k : ℕ) (d : NdRunqueue) → k < l.cell-index → IsCapacity (constants_of (get_or l.queues k d));
}
