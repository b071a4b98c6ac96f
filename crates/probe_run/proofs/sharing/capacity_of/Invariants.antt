use Rattle.std.proofs.Common.{◌≡◌, drop, filter}
use Rattle.probe_run.specs.Sums.{capacities_from, is_counted}
use Rattle.probe_run.proofs.sharing.capacity_of.Given as goal

abbrev pub invariant-loop-processor : goal.invariant-loop-processor
invariant-loop-processor l =
    capacities_from l.sum (filter (is_counted l.domain) (drop l.processor-index l.processors))
    ≡ capacities_from 0 (filter (is_counted l.domain) l.processors)
