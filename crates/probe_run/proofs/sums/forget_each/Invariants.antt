use Rattle.std.proofs.Common.{◌≡◌, ◌++◌, map, take, drop}
use Rattle.probe_run.specs.Sums.{forgotten}
use Rattle.probe_run.proofs.sums.forget_each.Given as goal

abbrev pub invariant-loop-one : goal.invariant-loop-one
invariant-loop-one l = l.runqueues ≡ map forgotten (take l.one-index l.initial.runqueues) ++ drop l.one-index l.initial.runqueues
