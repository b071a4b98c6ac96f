use Rattle.std.proofs.Common.{length}
use Rattle.size_report.proofs.options.+first_waiting.Given as goal

abbrev pub decreases-first_waiting : goal.decreases-first_waiting
decreases-first_waiting l = length l.tasks.now
