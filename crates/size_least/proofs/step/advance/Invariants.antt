use Rattle.size_least.proofs.Row.{less_count}
use Rattle.size_least.proofs.Walk.{AreTurning}
use Rattle.size_least.proofs.step.advance.Given as goal

abbrev pub invariant-loop-renewals : goal.invariant-loop-renewals
invariant-loop-renewals l = AreTurning l.runtime l.period l.used l.fn.renewals l.renewals

abbrev pub decreases-loop-renewals : goal.decreases-loop-renewals
decreases-loop-renewals l = less_count l.used l.renewals
