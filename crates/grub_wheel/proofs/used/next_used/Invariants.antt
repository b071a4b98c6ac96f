use Rattle.std.proofs.Common.{◌≡◌, ℕ, ◌-◌, ◌*◌, ◌<◌, ◌≤◌}
use Rattle.grub_wheel.specs.inside.Used.{mark_of}
use Rattle.grub_wheel.proofs.used.next_used.Given as goal

abbrev pub invariant-loop-word : goal.invariant-loop-word
invariant-loop-word l = record { low : l.slot < l.word * 64; high : l.word ≤ 4; none : (r : ℕ) → l.slot ≤ r → r < l.word * 64 → mark_of l.used r ≡ 0 }

abbrev pub decreases-loop-word : goal.decreases-loop-word
decreases-loop-word l = 4 - l.word
