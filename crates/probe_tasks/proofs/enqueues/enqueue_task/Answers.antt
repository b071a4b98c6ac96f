use Rattle.std.proofs.Common.{◌≡◌, ℕ, Bool, ap, ◌∙◌, subst}
use Rattle.std.specs.List.{list_any}
use Rattle.probe_run.specs.Runs.{state_of}
use Rattle.probe_run.specs.State.{actor_at, with_task}
use Rattle.probe_run.specs.declared.actor.Actor.{Actor}
use Rattle.probe_run.specs.Counting.{Goes}
use Rattle.probe_run.specs.Moves.{is_rest_by}
use Rattle.probe_tasks.specs.Enqueues.{enqueued_with, arrived_by}
use Rattle.probe_values.proofs.Steps.{after}
use Rattle.probe_tasks.proofs.enqueues.enqueue_task.Goals as goal

pub returns : goal.returns
returns c = λ plain whole.
    let s = state_of c.args.run.now in let q = c.args.enqueue in let t = c.args.rules in let b = c.without_dequeues-actor.result in
    let P : Actor → Type 0 = λ a. Goes s (enqueued_with t (arrived_by s a q.line) q.place q.number a q.line q.late q.within) (state_of c.enqueue_known.new.run) in
    subst P (c.without_dequeues-actor.ensures whole ∙ c.actor-known.ensures)
    (after (λ r. arrived_by r b q.line) (λ r. enqueued_with t r q.place q.number b q.line q.late q.within) s (state_of c.arrive.new.run) (state_of c.enqueue_known.new.run)
    c.in_ok-arrive.ensures.state c.in_ok-arrive.ensures.first (c.in_ok-enqueue_known.ensures plain whole))
