use Rattle.std.proofs.Common.{◌≡◌, ◌++◌, drop}
use Rattle.size_least.specs.inside.Rising.{summed}
use Rattle.size_least.proofs.heights.sums_of.Given as goal

abbrev pub invariant-loop-i : goal.invariant-loop-i
invariant-loop-i l = l.sums.items ++ summed (drop l.i l.heights) (drop l.i l.more) ≡ summed l.heights l.more
