use Rattle.std.proofs.Common.{ℕ, ◌<◌, get_or}
use Rattle.library_book.specs.Memory.{records_of}
use Rattle.library_book.specs.inside.Sums.{IsSum}
use Rattle.library_book.specs.declared.memory.NdRunqueue.{NdRunqueue}
use Rattle.library_book.proofs.Auditing.{NoSumBefore}
use Rattle.library_book.proofs.auditor.fault_of_sums.Given as goal

abbrev pub invariant-loop-r : goal.invariant-loop-r
invariant-loop-r l = record {
  none : NoSumBefore (records_of l.tasks) l.queues l.r;
  each : (k : ℕ) (d : NdRunqueue) → k < l.r → IsSum (records_of l.tasks) k (get_or l.queues k d);
}
