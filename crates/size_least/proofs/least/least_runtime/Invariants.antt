use Rattle.std.proofs.Common.{◌<◌, ◌≤◌, ◌-◌}
use Rattle.size_least.specs.Jobs.{late_of}
use Rattle.size_least.proofs.least.least_runtime.Given as goal

abbrev pub invariant-loop-high : goal.invariant-loop-high
invariant-loop-high l = (l.low < l.high) × (l.high ≤ l.period) × (late_of l.high l.period l.jobs ≤ l.allowed) × (0 < l.low → l.allowed < late_of l.low l.period l.jobs)

abbrev pub decreases-loop-high : goal.decreases-loop-high
decreases-loop-high l = l.high - l.low
