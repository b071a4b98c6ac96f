use Rattle.std.proofs.Common.{◌≡◌, ℕ, ◌&&◌, subst, sym, true, None, Some}
use Rattle.probe_run.specs.Runs.{state_of}
use Rattle.probe_run.specs.State.{State, actor_at, with_task, task_number, with_server, server_number}
use Rattle.probe_run.specs.declared.actor.Actor.{Actor}
use Rattle.probe_run.specs.Counting.{Goes, where_it_holds}
use Rattle.probe_tasks.specs.Tasks.{dequeued_with}
use Rattle.probe_values.proofs.Steps.{after}
use Rattle.probe_tasks.proofs.tasks.dequeued.Goals as goal

pub returns : goal.returns
returns c = λ whole.
    let s = state_of c.args.run.now in let d = c.args.line in let p = c.args.place in
    let P : ℕ → Type 0 = λ n. Goes s (dequeued_with (with_task s d.pid) p n d) (state_of c.begin_dequeue.new.run) in
    subst P c.in_ok-number.ensures.number (after (λ t. with_task t d.pid) (λ t. dequeued_with t p c.in_ok-number.number d) s (state_of c.task.new.self) (state_of c.begin_dequeue.new.run)
    c.in_ok-number.ensures.state c.in_ok-number.ensures.first (c.in_ok-begin_dequeue.ensures whole))
