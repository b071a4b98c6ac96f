use Rattle.std.proofs.Common.{◌≡◌, ℕ, Bool, ◌&&◌, ap, ◌∙◌, subst, sym}
use Rattle.probe_run.specs.Runs.{state_of}
use Rattle.probe_run.specs.State.{State, actor_at, with_task, with_server}
use Rattle.probe_run.specs.declared.actor.Actor.{Actor}
use Rattle.probe_run.specs.Counting.{Goes, where_it_holds}
use Rattle.kernel_rules.specs.declared.flags.TheConstants.{WAKEUP}
use Rattle.kernel_rules.specs.declared.dequeues.Dequeuing.{Dequeuing}
use Rattle.probe_run.specs.Handlers.{handler_runs, dequeuing_while}
use Rattle.probe_run.specs.State.{keep_at}
use Rattle.probe_run.specs.Sums.{change, block_in}
use Rattle.probe_run.specs.Begin.{sums_read}
use Rattle.probe_lines.specs.Servers.{stopping_of}
use Rattle.probe_lines.proofs.servers.keep_stop.Goals as goal

pub returns-clause-state : goal.returns-clause-state
returns-clause-state c = λ plain whole.
    let t = c.args.rules in let q = c.args.of in let l = c.args.line in let s = state_of c.args.run.now in
    let b = c.stopping-shown.result in let d = c.dequeue_while-done.result in
    let K : State → Actor → Dequeuing → State = λ r a e. block_in t (change (keep_at (sums_read r q.place l.cpu l.sums) q.number (record a { entity = e.entity })) l.cpu e.change) q.place q.number l.cpu e.change e.block in
    c.in_ok-change_and_block.ensures.state
    ∙ ap (λ r. block_in t (change r l.cpu d.change) q.place q.number l.cpu d.change d.block) (c.in_ok-read_and_keep.ensures.state whole)
    ∙ ap (λ r. K r b d) c.note_rule.ensures
    ∙ ap (λ e. K s b e) (c.dequeue_while-done.ensures plain ∙ ap (λ (r : Bool). dequeuing_while r b.entity WAKEUP 0 l.clock) c.handler_runs-runs.ensures)
    ∙ ap (λ a. K s a (dequeuing_while (handler_runs s q.number) a.entity WAKEUP 0 l.clock)) (c.stopping-shown.ensures ∙ ap (λ a. stopping_of a l.runtime l.deadline) c.shown_contending-contending.ensures)
