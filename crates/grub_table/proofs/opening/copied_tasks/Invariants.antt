use Rattle.std.proofs.Common.{◌≡◌, take}
use Rattle.grub_table.proofs.opening.copied_tasks.Given as goal

abbrev pub invariant-loop-t : goal.invariant-loop-t
invariant-loop-t l = l.tasks.items ≡ take l.t l.setup.tasks
