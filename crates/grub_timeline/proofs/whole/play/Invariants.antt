use Rattle.std.proofs.Common.{◌≡◌}
use Rattle.grub_timeline.proofs.whole.play.Given as goal

-- the entries so far
abbrev pub invariant-loop-told : goal.invariant-loop-told
invariant-loop-told l = (l.playing.plan ≡ l.plan) × (l.told.items ≡ l.playing.told)

abbrev pub decreases-loop-told : goal.decreases-loop-told
decreases-loop-told l = l.playing.left
