use Rattle.std.proofs.Common.{◌≡◌, ℕ, Bool, Option, ap, ◌∙◌}
use Rattle.probe_run.specs.Runs.{state_of}
use Rattle.probe_run.specs.State.{State, actor_at, keep_at, with_task, task_number}
use Rattle.probe_run.specs.declared.actor.Actor.{Actor}
use Rattle.kernel_rules.specs.declared.admissions.Admitting.{Admitting}
use Rattle.probe_run.specs.Handlers.{handler_runs, admitting_while}
use Rattle.probe_run.specs.Sums.{change, share_in}
use Rattle.probe_tasks.specs.Tasks.{room_of}
use Rattle.probe_tasks.proofs.admissions.admit_reserved.Goals as goal

pub returns-clause-state : goal.returns-clause-state
returns-clause-state c = λ plain.
    let a = c.args.actor in let m = c.args.line in let p = c.args.place in let n = c.args.number in let s = state_of c.args.run.now in let d = c.admit_while-done.result in
    let K : State → Admitting → State = λ r e. share_in (change (keep_at r n (record a { entity = e.entity })) m.cpu e.change) p m.cpu e.change in
    c.in_ok-change_and_share.ensures.state
    ∙ ap (λ r. share_in (change r m.cpu d.change) p m.cpu d.change) c.keep.ensures.state
    ∙ ap (λ r. K r d) c.note_admission.ensures
    ∙ ap (λ e. K s e) (c.admit_while-done.ensures plain ∙ ap (λ (r : ℕ). admitting_while c.handler_runs-runs.result a.entity m r) c.room-limit.ensures
    ∙ ap (λ (b : Bool). admitting_while b a.entity m (room_of s m)) c.handler_runs-runs.ensures)
