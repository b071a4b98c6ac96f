use Rattle.std.proofs.Common.{◌≡◌, ◌*◌, ◌≤◌, map, take}
use Rattle.std.specs.List.{sum_by}
use Rattle.grub_book.specs.Sums.{share_of, is_on, is_active_on}
use Rattle.library_book.specs.Memory.{record_of}
use Rattle.library_book.proofs.auditor.fresh_sums.Given as goal

abbrev pub invariant-loop-task : goal.invariant-loop-task
invariant-loop-task l = record {
  running : l.running ≡ sum_by (share_of (is_active_on l.r)) (map record_of (take l.task-index l.tasks));
  this : l.this ≡ sum_by (share_of (is_on l.r)) (map record_of (take l.task-index l.tasks));
  running_most : l.running ≤ l.task-index * 1048576;
  this_most : l.this ≤ l.task-index * 1048576;
}
