use Rattle.std.proofs.Common.{length}
use Rattle.trace_fields.proofs.front.+begins.Given as goal

abbrev pub decreases-begins : goal.decreases-begins
decreases-begins l = length l.key.now
