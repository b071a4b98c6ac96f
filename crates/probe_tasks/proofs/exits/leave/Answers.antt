use Rattle.std.proofs.Common.{◌≡◌, ℕ, Bool, ◌&&◌, ap, ◌∙◌, subst, sym}
use Rattle.probe_run.specs.Runs.{state_of}
use Rattle.probe_run.specs.State.{State, actor_at, with_task, with_server}
use Rattle.probe_run.specs.declared.actor.Actor.{Actor}
use Rattle.probe_run.specs.Counting.{Goes, where_it_holds}
use Rattle.probe_values.specs.Shown.{sums_agree, left_agrees}
use Rattle.probe_tasks.specs.Tasks.{left_next}
use Rattle.probe_values.proofs.Steps.{then_made}
use Rattle.probe_tasks.proofs.exits.leave.Goals as goal

pub returns : goal.returns
returns c = λ plain whole.
    let s = state_of c.args.run.now in let d = c.args.line in let p = c.args.place in let n = c.args.number in let t = c.args.rules in
    let P : Actor → Type 0 = λ a. Goes s (where_it_holds (sums_agree s d.cpu d.sums && left_agrees a d) (left_next t s p n a d)) (state_of c.keep_leave.new.run) in
    subst P c.actor.ensures (then_made (λ r. left_next t r p n c.actor.result d) _ _ _ _
    (c.in_ok-check_leave.ensures whole) c.in_ok-keep_leave.ensures.first (c.in_ok-keep_leave.ensures.state plain whole))
