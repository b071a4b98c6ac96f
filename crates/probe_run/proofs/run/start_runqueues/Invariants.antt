use Rattle.std.proofs.Common.{◌≡◌, ◌++◌, drop, map}
use Rattle.probe_run.specs.Start.{start_runqueue}
use Rattle.probe_run.proofs.run.start_runqueues.Given as goal

abbrev pub invariant-loop-start : goal.invariant-loop-start
invariant-loop-start l = l.runqueues.items ++ map (start_runqueue l.until) (drop l.start-index l.starts) ≡ map (start_runqueue l.until) l.starts
