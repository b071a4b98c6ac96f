use Rattle.std.proofs.Common.{◌≡◌, ℕ, ◌&&◌, subst, sym, true, None, Some}
use Rattle.probe_run.specs.Runs.{state_of}
use Rattle.probe_run.specs.State.{State, actor_at, with_task, task_number, with_server, server_number}
use Rattle.probe_run.specs.declared.actor.Actor.{Actor}
use Rattle.probe_run.specs.Counting.{Goes, where_it_holds}
use Rattle.probe_values.specs.Shown.{sums_agree, dequeued_agrees}
use Rattle.probe_tasks.specs.Tasks.{before_dequeue, dequeued_next}
use Rattle.probe_values.proofs.Steps.{then_made}
use Rattle.probe_tasks.proofs.tasks.begin_dequeue.Goals as goal

pub returns : goal.returns
returns c = λ whole.
    let s = state_of c.args.run.now in let d = c.args.line in let p = c.args.place in let n = c.args.number in
    let P : Actor → Type 0 = λ a. Goes s (where_it_holds (sums_agree s d.cpu d.sums && dequeued_agrees a d) (dequeued_next s p n a d)) (state_of c.keep_dequeue.new.run) in
    subst (λ a. P (before_dequeue a d)) c.actor.ensures (subst P c.before_dequeue.ensures (then_made (λ t. dequeued_next t p n c.before_dequeue.result d) _ _ _ _
    (c.in_ok-check_dequeue.ensures whole) c.in_ok-keep_dequeue.ensures.first (c.in_ok-keep_dequeue.ensures.state whole)))
