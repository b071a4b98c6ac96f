use Rattle.std.proofs.Common.{ℕ, ◌<◌, ◌≤◌, length, get_or}
use Rattle.grub_book.specs.Sound.{IsKept}
use Rattle.library_book.specs.Memory.{record_of, machine_of}
use Rattle.library_book.specs.Audit.{kept_fault}
use Rattle.library_book.specs.declared.memory.NdTask.{NdTask}
use Rattle.library_book.proofs.Faults.{NoneBefore}
use Rattle.library_book.proofs.auditor.fault_of_records.Given as goal

abbrev pub invariant-loop-task : goal.invariant-loop-task
invariant-loop-task l = record {
  none : NoneBefore (kept_fault (length l.queues)) l.tasks l.task-index;
  each : (k : ℕ) (d : NdTask) → k < l.task-index → IsKept (machine_of l.tasks l.queues) (record_of (get_or l.tasks k d));
  states : (k : ℕ) (d : NdTask) → k < l.task-index → (get_or l.tasks k d).state ≤ 4;
}
