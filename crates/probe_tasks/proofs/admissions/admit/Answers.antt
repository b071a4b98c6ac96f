use Rattle.std.proofs.Common.{◌≡◌, ℕ, Option, ap, ◌∙◌}
use Rattle.probe_run.specs.Runs.{state_of}
use Rattle.probe_run.specs.State.{State, actor_at, keep_at, with_task, task_number}
use Rattle.probe_run.specs.declared.actor.Actor.{Actor}
use Rattle.probe_tasks.specs.Tasks.{living_state, living_number, admitted_actor}
use Rattle.probe_tasks.proofs.admissions.admit.Goals as goal

pub returns-clause-state : goal.returns-clause-state
returns-clause-state c = λ plain.
    let m = c.args.line in let p = c.args.place in let n = c.args.number in let s = state_of c.args.run.now in
    let f = c.actor-found.result in let k = c.in_ok-alive.alive in let mid = state_of c.living.new.run in
    let V : State → ℕ → Actor → State = λ r j b. admitted_actor r p j m b in
    c.in_ok-admit_actor.ensures.state plain
    ∙ ap (λ b. V mid k b) c.actor-actor.ensures
    ∙ ap (λ r. V r k (actor_at r k)) c.in_ok-alive.ensures.state
    ∙ ap (λ j. V (living_state s n m f) j (actor_at (living_state s n m f) j)) c.in_ok-alive.ensures.number
    ∙ ap (λ (g : Actor). V (living_state s n m g) (living_number s n m g) (actor_at (living_state s n m g) (living_number s n m g))) c.actor-found.ensures
