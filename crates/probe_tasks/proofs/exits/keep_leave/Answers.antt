use Rattle.std.proofs.Common.{◌≡◌, ℕ, Bool, ◌&&◌, ap, ◌∙◌, subst, sym}
use Rattle.probe_run.specs.Runs.{state_of}
use Rattle.probe_run.specs.State.{State, actor_at, with_task, with_server}
use Rattle.probe_run.specs.declared.actor.Actor.{Actor}
use Rattle.probe_run.specs.Counting.{Goes, where_it_holds}
use Rattle.probe_run.specs.Begin.{sums_read}
use Rattle.probe_tasks.specs.Tasks.{left_shown_by}
use Rattle.probe_tasks.proofs.exits.keep_leave.Goals as goal

pub returns-clause-state : goal.returns-clause-state
returns-clause-state c = λ plain whole.
    let t = c.args.rules in let q = c.args.of in let l = c.args.line in let s = state_of c.args.run.now in
    let L : State → Actor → State = λ r a. left_shown_by t r q.place q.number l q.actor.knows_parameters a in
    c.in_ok-leave_shown.ensures.state plain
    ∙ ap (λ r. L r c.shown_left-shown.result) (c.in_ok-read_sums.ensures.state whole ∙ ap (λ r. sums_read r q.place l.cpu l.sums) c.note_both.ensures)
    ∙ ap (λ a. L (sums_read s q.place l.cpu l.sums) a) c.shown_left-shown.ensures
