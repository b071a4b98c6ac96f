use Rattle.std.proofs.Common.{◌≡◌, ◌&&◌, subst}
use Rattle.probe_run.specs.Runs.{state_of}
use Rattle.probe_run.specs.declared.actor.Actor.{Actor}
use Rattle.probe_run.specs.State.{keep_at}
use Rattle.probe_run.specs.Begin.{sums_read}
use Rattle.probe_run.specs.Counting.{Goes, where_it_holds}
use Rattle.probe_tasks.specs.Runs.{special_may}
use Rattle.probe_values.proofs.Steps.{both, then_made}
use Rattle.probe_tasks.proofs.runs.keep_special.Goals as goal

pub returns : goal.returns
returns c = λ whole.
    let q = c.args.charge in let s = state_of c.args.run.now in
    let P : Actor → Type 0 = λ a. Goes s (where_it_holds (special_may s c.args.actor q.line q.choice) (keep_at (sums_read s q.place q.line.cpu q.line.sums) q.number a)) (state_of c.read_and_keep.new.run) in
    subst P c.shown_charge.ensures (then_made (λ r. keep_at (sums_read r q.place q.line.cpu q.line.sums) q.number c.shown_charge.result) s (state_of c.check_none.new.run) (state_of c.read_and_keep.new.run) _
    (both _ _ _ _ _ (c.in_ok-check_shown.ensures whole) c.in_ok-check_none.ensures) c.in_ok-read_and_keep.ensures.first (c.in_ok-read_and_keep.ensures.state whole))
