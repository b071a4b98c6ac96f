use Rattle.std.proofs.Common.{◌≡◌, map, []}
use Rattle.size_least.specs.Heights.{height_in}
use Rattle.size_least.specs.Needs.{AllWork, needs_after}
use Rattle.size_least.proofs.heights.heights_of.Given as goal

abbrev pub invariant-loop-step : goal.invariant-loop-step
invariant-loop-step l = AllWork l.jobs → l.heights.items ≡ map (height_in l.step l.top) (needs_after l.period [] l.jobs)
