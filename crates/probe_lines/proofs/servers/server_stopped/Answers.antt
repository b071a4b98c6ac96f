use Rattle.std.proofs.Common.{◌≡◌, ℕ, Bool, ◌&&◌, ap, ◌∙◌, subst, sym}
use Rattle.probe_run.specs.Runs.{state_of}
use Rattle.probe_run.specs.State.{State, actor_at, with_task, with_server}
use Rattle.probe_run.specs.declared.actor.Actor.{Actor}
use Rattle.probe_run.specs.Counting.{Goes, where_it_holds}
use Rattle.probe_lines.specs.Servers.{stopped_with}
use Rattle.probe_values.proofs.Steps.{after}
use Rattle.probe_lines.proofs.servers.server_stopped.Goals as goal

pub returns : goal.returns
returns c = λ plain whole.
    let s = state_of c.args.run.now in let l = c.args.line in let p = c.args.place in let t = c.args.rules in
    let P : ℕ → Type 0 = λ n. Goes s (stopped_with t (with_server s l.cpu) p n l) (state_of c.stop_server.new.run) in
    subst P c.in_ok-number.ensures.number (after (λ r. with_server r l.cpu) (λ r. stopped_with t r p c.in_ok-number.number l) s (state_of c.server.new.self) (state_of c.stop_server.new.run)
    c.in_ok-number.ensures.state c.in_ok-number.ensures.first (c.in_ok-stop_server.ensures plain whole))
