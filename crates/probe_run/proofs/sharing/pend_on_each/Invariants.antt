use Rattle.std.proofs.Common.{◌≡◌, ◌++◌, drop, map, filter}
use Rattle.probe_run.specs.Sums.{extra_effect, is_member}
use Rattle.probe_run.proofs.sharing.pend_on_each.Given as goal

abbrev pub invariant-loop-processor : goal.invariant-loop-processor
invariant-loop-processor l =
    l.pending.items ++ map (extra_effect l.place l.amount) (filter (is_member l.number) (drop l.processor-index l.processors))
    ≡ l.initial.pending.items ++ map (extra_effect l.place l.amount) (filter (is_member l.number) l.processors)
