use Rattle.std.proofs.Common.{◌≡◌, ◌≤◌}
use Rattle.size_least.proofs.witness.late_at.Given as goal

abbrev pub invariant-loop-back : goal.invariant-loop-back
invariant-loop-back l = (l.late.job ≡ l.at) × (l.late.from ≤ l.at)
