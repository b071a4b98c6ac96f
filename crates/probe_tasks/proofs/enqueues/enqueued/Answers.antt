use Rattle.std.proofs.Common.{◌≡◌, ℕ, Bool, ap, ◌∙◌, subst}
use Rattle.std.specs.List.{list_any}
use Rattle.probe_run.specs.Runs.{state_of}
use Rattle.probe_run.specs.State.{actor_at, with_task}
use Rattle.probe_run.specs.declared.actor.Actor.{Actor}
use Rattle.probe_run.specs.Counting.{Goes}
use Rattle.probe_run.specs.Moves.{is_rest_by}
use Rattle.probe_tasks.specs.Enqueues.{enqueued_with, arrived_by}
use Rattle.probe_values.proofs.Steps.{after}
use Rattle.probe_tasks.proofs.enqueues.enqueued.Goals as goal

pub returns : goal.returns
returns c = λ plain whole.
    let s = state_of c.args.run.now in let l = c.args.line in let p = c.args.place in let t = c.args.rules in
    let m = c.in_ok-number.number in let v = c.is_within-within.result in let new = state_of c.enqueue_task.new.run in
    let G : ℕ → Bool → Type 0 = λ n w. Goes s (enqueued_with t (arrived_by (with_task s l.pid) (actor_at (with_task s l.pid) n) l) p n (actor_at (with_task s l.pid) n) l c.args.late w) new in
    let W : Bool → Type 0 = λ w. G m w in
    let N : ℕ → Type 0 = λ n. G n (list_any (is_rest_by p.cpu) s.open_dequeues) in
    subst N c.in_ok-number.ensures.number
    (subst W (c.is_within-within.ensures ∙ ap (λ rs. list_any (is_rest_by p.cpu) rs) c.open_dequeues.ensures)
    (after (λ r. with_task r l.pid) (λ r. enqueued_with t (arrived_by r (actor_at r m) l) p m (actor_at r m) l c.args.late v) s (state_of c.task.new.self) new
    c.in_ok-number.ensures.state c.in_ok-number.ensures.first (c.in_ok-enqueue_task.ensures plain whole)))
