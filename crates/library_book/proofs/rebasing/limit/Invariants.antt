use Rattle.std.proofs.Common.{◌≡◌, ◌<◌, ◌^◌, ◌↔◌, ℕ, None}
use Rattle.grub_book.specs.Rebase.{first_held}
use Rattle.grub_book.proofs.Rebasing.{AreFree}
use Rattle.library_book.specs.Memory.{records_of}
use Rattle.library_book.proofs.rebasing.limit.Given as goal

abbrev pub invariant-loop-task : goal.invariant-loop-task
invariant-loop-task l = (by : ℕ) → by < 2 ^ 32 → ((first_held by (records_of l.tasks) ≡ None) ↔ AreFree by (records_of l.tasks) l.task-index l.least)
