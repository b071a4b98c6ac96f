use Rattle.std.proofs.Common.{All}
use Rattle.size_report.specs.Needs.{IsPriced}
use Rattle.size_report.proofs.sizing.others_of.Given as goal

abbrev pub invariant-loop-parts : goal.invariant-loop-parts
invariant-loop-parts l = All (IsPriced l.jobs l.allowed) l.others.items
