use Rattle.std.proofs.Common.{◌≡◌, ℕ, Option, ap, ◌∙◌}
use Rattle.probe_run.specs.Runs.{state_of}
use Rattle.probe_run.specs.State.{State, actor_at, keep_at, with_task, task_number}
use Rattle.probe_run.specs.declared.actor.Actor.{Actor}
use Rattle.probe_tasks.specs.Tasks.{total_read, admitted_with}
use Rattle.probe_tasks.proofs.admissions.admit_deadline.Goals as goal

pub returns-clause-state : goal.returns-clause-state
returns-clause-state c = λ plain.
    let m = c.args.line in let p = c.args.place in let s = state_of c.args.run.now in let r1 = state_of c.read_total.new.run in
    let V : State → ℕ → State = λ r k. admitted_with r p k m in
    c.in_ok-admit.ensures.state plain
    ∙ ap (λ r. V r c.in_ok-number.number) c.in_ok-number.ensures.state
    ∙ ap (λ k. V (with_task r1 m.pid) k) c.in_ok-number.ensures.number
    ∙ ap (λ r. V (with_task r m.pid) (task_number r m.pid)) (c.in_ok-read_total.ensures.state ∙ ap (λ d. total_read s p d m.total_bw) c.domain_of-domain.ensures)
