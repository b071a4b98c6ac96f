use Rattle.probe_run.specs.Sums.{without_extra}
use Rattle.probe_run.proofs.Mapping.{over_more, over_all}
use Rattle.probe_run.proofs.sums.forget_each_extra.Goals as goal

pub loop-one-preserved : goal.loop-one-preserved
loop-one-preserved c =
    over_more without_extra c.args.runqueues.now c.loop-one.runqueues c.loop-one.one-index _ c.with_no_extra.result c.loop-one-test.true c.loop-one.auto.runqueues c.loop-one.invariant c.with_no_extra.ensures

pub returns : goal.returns
returns c = over_all without_extra c.args.runqueues.now c.loop-one.runqueues c.loop-one.one-index c.loop-one-test.false c.loop-one.invariant
