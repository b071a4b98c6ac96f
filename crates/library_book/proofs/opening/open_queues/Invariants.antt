use Rattle.std.proofs.Common.{◌≡◌, ℕ, ◌<◌, get_or}
use Rattle.library_book.specs.Memory.{constants_of, reading_in}
use Rattle.library_book.specs.declared.memory.NdRunqueue.{NdRunqueue}
use Rattle.library_book.proofs.opening.open_queues.Given as goal

abbrev pub invariant-loop-i : goal.invariant-loop-i
invariant-loop-i l = record {
  constants : (k : ℕ) (d : NdRunqueue) → constants_of (get_or l.queues k d) ≡ constants_of (get_or l.initial.queues k d);
  zero : (k : ℕ) (d : NdRunqueue) → k < l.i → reading_in (get_or l.queues k d) ≡ record { running = 0; this = 0 };
}
