use Rattle.probe_run.specs.Sums.{without_total}
use Rattle.probe_run.proofs.Mapping.{over_more, over_all}
use Rattle.probe_run.proofs.sums.forget_each_total.Goals as goal

pub loop-one-preserved : goal.loop-one-preserved
loop-one-preserved c =
    over_more without_total c.args.domains.now c.loop-one.domains c.loop-one.one-index _ c.with_no_total.result c.loop-one-test.true c.loop-one.auto.domains c.loop-one.invariant c.with_no_total.ensures

pub returns : goal.returns
returns c = over_all without_total c.args.domains.now c.loop-one.domains c.loop-one.one-index c.loop-one-test.false c.loop-one.invariant
