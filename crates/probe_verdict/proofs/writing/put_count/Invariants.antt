use Rattle.probe_verdict.specs.Texts.{Extends}
use Rattle.probe_verdict.proofs.writing.put_count.Given as goal

abbrev pub invariant-loop-i : goal.invariant-loop-i
invariant-loop-i l = Extends l.initial.out.items l.out.items
