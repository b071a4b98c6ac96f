use Rattle.std.proofs.Common.{◌≡◌, ◌++◌, map, take, drop}
use Rattle.probe_run.specs.Sums.{forgets_extra}
use Rattle.probe_run.proofs.sharing.forget_others.Given as goal

abbrev pub invariant-loop-one : goal.invariant-loop-one
invariant-loop-one l = l.runqueues ≡ map (forgets_extra l.processors) (take l.one-index l.initial.runqueues) ++ drop l.one-index l.initial.runqueues
