use Rattle.std.proofs.Common.{◌≡◌, ◌++◌, map, take, drop}
use Rattle.library_book.specs.inside.Rebasing.{task_rebased}
use Rattle.library_book.proofs.rebasing.rebase_all.Given as goal

abbrev pub invariant-loop-i : goal.invariant-loop-i
invariant-loop-i l = l.tasks ≡ map (task_rebased l.by) (take l.i l.initial.tasks) ++ drop l.i l.initial.tasks
