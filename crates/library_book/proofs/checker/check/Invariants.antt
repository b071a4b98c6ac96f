use Rattle.std.proofs.Common.{take}
use Rattle.grub_book.specs.Machine.{Machine}
use Rattle.library_book.specs.Memory.{records_of, IsBook}
use Rattle.library_book.proofs.Replaying.{Replayed}
use Rattle.library_book.proofs.checker.check.Given as goal

abbrev pub invariant-loop-i : goal.invariant-loop-i
invariant-loop-i l = (s : Machine) → IsBook s l.initial.tasks l.initial.queues → Replayed s (records_of l.initial.tasks) (take l.i l.events) l.tasks l.queues
