use Rattle.std.proofs.Common.{◌≡◌, ℕ, Bool, ◌&&◌, ap, ◌∙◌, subst, sym}
use Rattle.probe_run.specs.Runs.{state_of}
use Rattle.probe_run.specs.State.{State, actor_at, with_task, with_server}
use Rattle.probe_run.specs.declared.actor.Actor.{Actor}
use Rattle.probe_run.specs.Counting.{Goes, where_it_holds}
use Rattle.probe_tasks.specs.Tasks.{left_with}
use Rattle.probe_values.proofs.Steps.{after}
use Rattle.probe_tasks.proofs.exits.left_class.Goals as goal

pub returns : goal.returns
returns c = λ plain whole.
    let s = state_of c.args.run.now in let d = c.args.line in let p = c.args.place in let t = c.args.rules in
    let P : ℕ → Type 0 = λ n. Goes s (left_with t (with_task s d.pid) p n d) (state_of c.leave.new.run) in
    subst P c.in_ok-number.ensures.number (after (λ r. with_task r d.pid) (λ r. left_with t r p c.in_ok-number.number d) s (state_of c.task.new.self) (state_of c.leave.new.run)
    c.in_ok-number.ensures.state c.in_ok-number.ensures.first (c.in_ok-leave.ensures plain whole))
