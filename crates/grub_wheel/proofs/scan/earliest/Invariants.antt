use Rattle.std.proofs.Common.{◌-◌, ◌≤◌}
use Rattle.grub_wheel.proofs.Scans.{IsScanned}
use Rattle.grub_wheel.proofs.scan.earliest.Given as goal

abbrev pub invariant-loop-k : goal.invariant-loop-k
invariant-loop-k l = record { scanned : IsScanned l.nodes l.from l.m l.k l.best; low : l.k ≤ l.count }

abbrev pub decreases-loop-k : goal.decreases-loop-k
decreases-loop-k l = l.count - l.k
