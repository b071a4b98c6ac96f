use Rattle.std.proofs.Common.{◌≡◌, ◌<◌, ◌^◌, ◌↔◌, ℕ, None}
use Rattle.grub_book.specs.Rebase.{first_held}
use Rattle.grub_book.proofs.Rebasing.{AreFree}
use Rattle.grub_book.proofs.rebase.limit.Given as goal

abbrev pub invariant-loop-held : goal.invariant-loop-held
invariant-loop-held l = (by : ℕ) → by < 2 ^ 32 → ((first_held by l.records ≡ None) ↔ AreFree by l.records l.held-index l.least)
