use Rattle.std.proofs.Common.{◌≡◌, length}
use Rattle.size_least.specs.inside.Walk.{remembered}
use Rattle.size_least.proofs.step.forget.Given as goal

abbrev pub invariant-loop-renewals : goal.invariant-loop-renewals
invariant-loop-renewals l = remembered l.release l.renewals ≡ remembered l.release l.fn.renewals

abbrev pub decreases-loop-renewals : goal.decreases-loop-renewals
decreases-loop-renewals l = length l.renewals
