use Rattle.std.proofs.Common.{◌≡◌, take}
use Rattle.grub_book.specs.Machine.{IsMachine}
use Rattle.grub_table.proofs.opening.copied_queues.Given as goal

abbrev pub invariant-loop-r : goal.invariant-loop-r
invariant-loop-r l = record {
  limits : IsMachine l.setup;
  items : l.queues.items ≡ take l.r l.setup.queues;
}
