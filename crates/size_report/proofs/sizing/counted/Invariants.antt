use Rattle.std.proofs.Common.{All}
use Rattle.size_report.specs.Needs.{IsCounted}
use Rattle.size_report.proofs.sizing.counted.Given as goal

abbrev pub invariant-loop-runtime : goal.invariant-loop-runtime
invariant-loop-runtime l = All (IsCounted l.jobs l.period) l.choices.items
