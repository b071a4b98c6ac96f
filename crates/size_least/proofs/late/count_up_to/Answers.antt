use Rattle.std.proofs.Common.{arith, cond, [], ◌∷◌, ◌+◌, ◌-◌, ◌≡◌, refl}
use Rattle.size_least.proofs.Walk.{Answers-none, IsKept-none, count-next}
use Rattle.size_least.proofs.late.count_up_to.Goals as goal
use Rattle.size_least.proofs.late.count_up_to.Goals.{then-not-are_done_by+else-count-most, else-not-are_done_by}

pub loop-job-init : goal.loop-job-init
loop-job-init c = ([], rw c.new-renewals.ensures (IsKept-none (c.args.period - c.args.runtime) c.args.runtime), rw c.new-renewals.ensures (Answers-none c.args.runtime c.args.period), omega arith, omega arith, omega arith)

pub step-requires-clause-kept : goal.step-requires-clause-kept
step-requires-clause-kept c = c.loop-job.invariant.1

pub loop-job-preserved : goal.loop-job-preserved
loop-job-preserved c =
    let inv = c.loop-job.invariant in
    let job = c.job-item.result in
    let kept = c.in_ok-step.ensures.kept in
    let answers = c.in_ok-step.ensures.answers inv.0 inv.2 in
    elim c.if-not-are_done_by.branch [
      | then-not-are_done_by+else-count-most w ↦
          let n = c.if-not-are_done_by.count in
          let is : n ≡ cond c.are_done_by.result c.loop-job.count (c.loop-job.count + 1) = rw w.if-not-are_done_by.true w.count-is in
          let next = count-next _ _ c.loop-job.count _ _ _ inv.0 _ job c.are_done_by.result n c.requires.some c.loop-job-test.true c.job-item.is job.bounded kept answers inv.3 c.are_done_by.ensures is in
          (job ∷ inv.0, kept, answers, next, omega arith, omega arith)
      | else-not-are_done_by w ↦
          let n = c.if-not-are_done_by.count in
          let is : n ≡ cond c.are_done_by.result c.loop-job.count (c.loop-job.count + 1) = rw w.if-not-are_done_by.false w.count-is in
          let next = count-next _ _ c.loop-job.count _ _ _ inv.0 _ job c.are_done_by.result n c.requires.some c.loop-job-test.true c.job-item.is job.bounded kept answers inv.3 c.are_done_by.ensures is in
          (job ∷ inv.0, kept, answers, next, omega arith, omega arith)
    ]

pub returns-then-count-most : goal.returns-then-count-most
returns-then-count-most c =
    let inv = c.loop-job.invariant in
    let job = c.job-item.result in
    let kept = c.in_ok-step.ensures.kept in
    let answers = c.in_ok-step.ensures.answers inv.0 inv.2 in
    let is : c.loop-job.count + 1 ≡ cond c.are_done_by.result c.loop-job.count (c.loop-job.count + 1) = rw c.if-not-are_done_by.true refl in
    let next = count-next _ _ c.loop-job.count _ _ _ inv.0 _ job c.are_done_by.result (c.loop-job.count + 1) c.requires.some c.loop-job-test.true c.job-item.is job.bounded kept answers inv.3 c.are_done_by.ensures is in
    record { within = λ le. absurd (omega arith); above = λ lt. omega (arith, next) }
