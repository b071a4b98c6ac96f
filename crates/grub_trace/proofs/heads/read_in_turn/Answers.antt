use Rattle.std.proofs.Common.{◌∙◌, ap, arith, sym}
use Rattle.grub_trace.specs.inside.Bodies.{head_above}
use Rattle.grub_trace.proofs.PlanOfHeads.{all_taken, bodies_next}
use Rattle.grub_trace.proofs.heads.read_in_turn.Goals as goal

pub loop-i-preserved : goal.loop-i-preserved
loop-i-preserved c =
    let next = bodies_next c.args.tasks.now c.loop-i.bodies c.loop-i.i c.read.new.self c.index-bodies-i.result (omega (arith, c.loop-i-test.true, c.loop-i.auto.bodies)) c.index-bodies-i.is (c.read.ensures.head ∙ ap head_above (sym c.index-bodies-i.is)) c.read.ensures.read c.loop-i.invariant.have c.loop-i.invariant.read in
    record { heads = next.0 ∙ c.loop-i.invariant.heads; have = next.1; read = next.2 }

pub returns-clause-read : goal.returns-clause-read
returns-clause-read c = all_taken c.args.tasks.now c.loop-i.bodies c.loop-i.i (omega (arith, c.loop-i-test.false, c.loop-i.auto.bodies)) c.loop-i.invariant.read
