use Rattle.probe_run.specs.Sums.{forgets_extra}
use Rattle.probe_run.proofs.Mapping.{over_more, over_all}
use Rattle.probe_run.proofs.sharing.forget_others.Goals as goal

pub loop-one-preserved : goal.loop-one-preserved
loop-one-preserved c =
    over_more (forgets_extra c.args.processors.now) c.args.runqueues.now c.loop-one.runqueues c.loop-one.one-index _ c.forgets_extra.result c.loop-one-test.true c.loop-one.auto.runqueues c.loop-one.invariant c.forgets_extra.ensures

pub returns : goal.returns
returns c = over_all (forgets_extra c.args.processors.now) c.args.runqueues.now c.loop-one.runqueues c.loop-one.one-index c.loop-one-test.false c.loop-one.invariant
