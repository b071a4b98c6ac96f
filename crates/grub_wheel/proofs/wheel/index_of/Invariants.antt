use Rattle.std.proofs.Common.{◌≡◌, ℕ, ◌<◌}
use Rattle.grub_wheel.specs.inside.Nodes.{Armed, tasks}
use Rattle.grub_wheel.proofs.wheel.index_of.Given as goal

abbrev pub invariant-loop-i : goal.invariant-loop-i
invariant-loop-i l = (k : ℕ) → k < l.i → Armed l.nodes k → tasks l.nodes k ≡ l.t → ⊥
