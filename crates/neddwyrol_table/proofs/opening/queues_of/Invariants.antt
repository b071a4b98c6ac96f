use Rattle.std.proofs.Common.{◌≡◌, map, take}
use Rattle.library_book.specs.Memory.{constants_of}
use Rattle.neddwyrol_table.proofs.opening.queues_of.Given as goal

abbrev pub invariant-loop-cell : goal.invariant-loop-cell
invariant-loop-cell l = record { items : l.found.items ≡ map constants_of (take l.cell-index l.queues) }
