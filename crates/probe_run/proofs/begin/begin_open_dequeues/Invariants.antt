use Rattle.std.proofs.Common.{◌≡◌, ◌++◌, map, take, drop}
use Rattle.probe_run.specs.Begin.{begun_dequeue}
use Rattle.probe_run.proofs.begin.begin_open_dequeues.Given as goal

abbrev pub invariant-loop-one : goal.invariant-loop-one
invariant-loop-one l = l.open_dequeues ≡ map (begun_dequeue l.by) (take l.one-index l.initial.open_dequeues) ++ drop l.one-index l.initial.open_dequeues
