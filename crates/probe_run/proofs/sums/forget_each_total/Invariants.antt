use Rattle.std.proofs.Common.{◌≡◌, ◌++◌, map, take, drop}
use Rattle.probe_run.specs.Sums.{without_total}
use Rattle.probe_run.proofs.sums.forget_each_total.Given as goal

abbrev pub invariant-loop-one : goal.invariant-loop-one
invariant-loop-one l = l.domains ≡ map without_total (take l.one-index l.initial.domains) ++ drop l.one-index l.initial.domains
