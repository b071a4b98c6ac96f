use Rattle.probe_run.specs.Begin.{begun_dequeue}
use Rattle.probe_run.proofs.Mapping.{over_more, over_all}
use Rattle.probe_run.proofs.begin.begin_open_dequeues.Goals as goal

pub loop-one-preserved : goal.loop-one-preserved
loop-one-preserved c =
    over_more (begun_dequeue c.args.by) c.args.open_dequeues.now c.loop-one.open_dequeues c.loop-one.one-index _ c.without_wait.result c.loop-one-test.true c.loop-one.auto.open_dequeues c.loop-one.invariant c.without_wait.ensures

pub returns : goal.returns
returns c = over_all (begun_dequeue c.args.by) c.args.open_dequeues.now c.loop-one.open_dequeues c.loop-one.one-index c.loop-one-test.false c.loop-one.invariant
