use Rattle.std.proofs.Common.{◌≡◌}
use Rattle.trace_options.specs.Words.{domain_in}
use Rattle.trace_options.specs.inside.Texts.{left_length, ranges_left}
use Rattle.trace_options.proofs.words.domain_of.Given as goal

-- the answer is that of the ranges and the parts that are left
abbrev pub invariant-loop-left : goal.invariant-loop-left
invariant-loop-left l = ranges_left l.ranges.items l.before l.left ≡ domain_in l.text

abbrev pub decreases-loop-left : goal.decreases-loop-left
decreases-loop-left l = left_length l.left
