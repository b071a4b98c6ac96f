use Rattle.std.proofs.Common.{ℕ, ◌-◌, ◌<◌, ◌≤◌}
use Rattle.grub_wheel.specs.inside.Nodes.{Armed, slots, moments}
use Rattle.grub_wheel.proofs.scan.least_moment.Given as goal

abbrev pub invariant-loop-slot : goal.invariant-loop-slot
invariant-loop-slot l = record { low : l.slot ≤ 256; bound : (i : ℕ) → Armed l.nodes i → slots l.nodes i < l.slot → l.bound ≤ moments l.nodes i }

abbrev pub decreases-loop-slot : goal.decreases-loop-slot
decreases-loop-slot l = 256 - l.slot
