use Rattle.std.proofs.Common.{◌≡◌, ◌++◌, map, take, drop}
use Rattle.probe_run.specs.Sums.{without_extra}
use Rattle.probe_run.proofs.sums.forget_each_extra.Given as goal

abbrev pub invariant-loop-one : goal.invariant-loop-one
invariant-loop-one l = l.runqueues ≡ map without_extra (take l.one-index l.initial.runqueues) ++ drop l.one-index l.initial.runqueues
