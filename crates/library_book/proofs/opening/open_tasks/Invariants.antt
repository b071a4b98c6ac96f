use Rattle.std.proofs.Common.{◌≡◌, ℕ, ◌<◌, ◌≤◌, get_or}
use Rattle.grub_book.specs.Sums.{opening_record}
use Rattle.library_book.specs.Memory.{record_of, params_of}
use Rattle.library_book.specs.declared.memory.NdTask.{NdTask}
use Rattle.library_book.proofs.opening.open_tasks.Given as goal

abbrev pub invariant-loop-i : goal.invariant-loop-i
invariant-loop-i l = record {
  done : (k : ℕ) (d : NdTask) → k < l.i → record_of (get_or l.tasks k d) ≡ opening_record (params_of (get_or l.initial.tasks k d));
  states : (k : ℕ) (d : NdTask) → k < l.i → (get_or l.tasks k d).state ≤ 4;
  rest : (k : ℕ) (d : NdTask) → l.i ≤ k → get_or l.tasks k d ≡ get_or l.initial.tasks k d;
}
