use Rattle.std.proofs.Common.{ℕ, ◌<◌, get_or}
use Rattle.grub_book.specs.Bandwidth.{IsReservation}
use Rattle.library_book.specs.Memory.{params_of}
use Rattle.library_book.specs.Opening.{task_fault}
use Rattle.library_book.specs.declared.memory.NdTask.{NdTask}
use Rattle.library_book.proofs.Faults.{NoneBefore}
use Rattle.library_book.proofs.opening.fault_of_tasks.Given as goal

abbrev pub invariant-loop-task : goal.invariant-loop-task
invariant-loop-task l = record {
  none : NoneBefore task_fault l.tasks l.task-index;
  each : (k : ℕ) (d : NdTask) → k < l.task-index → IsReservation (params_of (get_or l.tasks k d));
}
