use Rattle.std.proofs.lemmas.Result.{err_from_is_err_and}
use Rattle.grub_plan.specs.Contents.{contents}
use Rattle.grub_trace.proofs.PlanOfHeads.{all_read, planned_then, still_together}
use Rattle.grub_trace.proofs.read.plan_by_threads.Goals as goal

pub returns-in_err-heads : goal.returns-in_err-heads
returns-in_err-heads g c =
    let p = err_from_is_err_and c.from_residual.result c.from_residual.ensures.1 in
    rw (p.1, p.2) c.in_err-heads.ensures.fault

pub plan_of-requires-clause-read : goal.plan_of-requires-clause-read
plan_of-requires-clause-read g c = all_read c.in_ok-heads.heads.tasks c.in_ok-heads.heads c.deref_mut.result.now c.read_by_threads.new.bodies c.deref_mut.ensures.value c.read_by_threads.auto.bodies c.read_by_threads.ensures.read

pub plan_of-requires-clause-files : goal.plan_of-requires-clause-files
plan_of-requires-clause-files g c = (contents c.args.files.now, still_together (contents c.args.files.now) c.in_ok-heads.heads c.deref_mut.result.now c.read_by_threads.new.bodies c.in_ok-heads.ensures.heads c.deref_mut.ensures.value c.read_by_threads.auto.bodies c.read_by_threads.ensures.heads)

pub returns : goal.returns
returns g c =
    let together = still_together (contents c.args.files.now) c.in_ok-heads.heads c.deref_mut.result.now c.read_by_threads.new.bodies c.in_ok-heads.ensures.heads c.deref_mut.ensures.value c.read_by_threads.auto.bodies c.read_by_threads.ensures.heads in
    planned_then (contents c.args.files.now) c.in_ok-heads.heads c.plan_of.result c.in_ok-heads.ensures.heads (c.plan_of.ensures (contents c.args.files.now) together)
