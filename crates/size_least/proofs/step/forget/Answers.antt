use Rattle.std.proofs.Common.{sym, ◌∙◌}
use Rattle.size_least.proofs.Row.{forget-next, forget-shorter, forget-end}
use Rattle.size_least.proofs.step.forget.Goals as goal

pub loop-renewals-preserved : goal.loop-renewals-preserved
loop-renewals-preserved c = forget-next c.args.release c.loop-renewals.renewals _ _ (sym c.is_over.ensures ∙ c.loop-renewals-test.true) c.drop_first.ensures c.loop-renewals.invariant

pub loop-renewals-smaller : goal.loop-renewals-smaller
loop-renewals-smaller c = forget-shorter c.args.release c.loop-renewals.renewals _ (sym c.is_over.ensures ∙ c.loop-renewals-test.true) c.drop_first.ensures

pub returns : goal.returns
returns c = forget-end c.args.release c.loop-renewals.renewals _ (sym c.is_over.ensures ∙ c.loop-renewals-test.false) c.loop-renewals.invariant
