use Rattle.probe_run.specs.Sums.{forgotten}
use Rattle.probe_run.proofs.Mapping.{over_more, over_all}
use Rattle.probe_run.proofs.sums.forget_each.Goals as goal

pub loop-one-preserved : goal.loop-one-preserved
loop-one-preserved c =
    over_more forgotten c.args.runqueues.now c.loop-one.runqueues c.loop-one.one-index _ c.unknown.result c.loop-one-test.true c.loop-one.auto.runqueues c.loop-one.invariant c.unknown.ensures

pub returns : goal.returns
returns c = over_all forgotten c.args.runqueues.now c.loop-one.runqueues c.loop-one.one-index c.loop-one-test.false c.loop-one.invariant
