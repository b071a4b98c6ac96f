use Rattle.std.proofs.Common.{◌<◌, ◌∙◌, [], arith}
use Rattle.size_least.specs.Needs.{needs_after}
use Rattle.size_least.proofs.Rise.{none-high, rise}
use Rattle.size_least.proofs.heights.heights_of.Goals as goal

pub loop-step-init : goal.loop-step-init
loop-step-init c = λ all. c.in_ok-heights.ensures ∙ none-high c.args.period c.args.top [] c.args.jobs.now

pub loop-step-preserved : goal.loop-step-preserved
loop-step-preserved c = λ all.
    let within : c.loop-step.step < 150 = omega (arith, c.loop-step-test.true) in
    c.in_ok-heights-2.ensures
    ∙ rw (c.deref.ensures.value, c.deref-in-loop-step.ensures.value, c.loop-step.invariant all, c.in_ok-more.ensures all, c.below_of.ensures.value)
    (rise c.args.top c.loop-step.step (needs_after c.args.period [] c.args.jobs.now) c.requires.some within)
