use Rattle.std.proofs.Common.{◌≡◌, take, drop}
use Rattle.grub_book.specs.Machine.{Machine}
use Rattle.library_book.specs.Memory.{records_of, IsBook}
use Rattle.library_book.proofs.Asking.{Asked}
use Rattle.library_book.proofs.batch.apply_all.Given as goal

abbrev pub invariant-loop-i : goal.invariant-loop-i
invariant-loop-i l = record {
  asked : (s : Machine) → IsBook s l.initial.tasks l.initial.queues → Asked s (records_of l.initial.tasks) (take l.i l.asks) l.tasks l.queues (take l.i l.replies);
  rest : drop l.i l.replies ≡ drop l.i l.initial.replies;
}
