use Rattle.std.proofs.Common.{[], ◌∷◌, ◌-◌, refl}
use Rattle.size_least.proofs.Walk.{Answers-none, IsKept-none, lates-next}
use Rattle.size_least.proofs.late.lates_of.Goals as goal

pub loop-job-init : goal.loop-job-init
loop-job-init c = ([], rw c.new-renewals.ensures (IsKept-none (c.args.period - c.args.runtime) c.args.runtime), rw c.new-renewals.ensures (Answers-none c.args.runtime c.args.period), rw c.new-lates.ensures.items refl)

pub step-requires-clause-kept : goal.step-requires-clause-kept
step-requires-clause-kept c = c.loop-job.invariant.1

pub loop-job-preserved : goal.loop-job-preserved
loop-job-preserved c =
    let inv = c.loop-job.invariant in
    let job = c.job-item.result in
    let kept = c.in_ok-step.ensures.kept in
    let answers = c.in_ok-step.ensures.answers inv.0 inv.2 in
    let next = lates-next _ _ _ _ _ _ _ inv.0 _ job c.late_by.result c.requires.some c.loop-job-test.true c.job-item.is job.bounded kept answers inv.3 c.late_by.ensures c.in_ok-push.ensures.items in
    (job ∷ inv.0, kept, answers, next)
