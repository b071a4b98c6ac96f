use Rattle.std.proofs.Common.{◌≡◌, ℕ, Bool, ◌&&◌, ap, ◌∙◌, subst, sym}
use Rattle.probe_run.specs.Runs.{state_of}
use Rattle.probe_run.specs.State.{State, actor_at, with_task, with_server}
use Rattle.probe_run.specs.declared.actor.Actor.{Actor}
use Rattle.probe_run.specs.Counting.{Goes, where_it_holds}
use Rattle.trace_data.specs.declared.probe.ServerStopped.{ServerStopped}
use Rattle.probe_lines.specs.Servers.{stopped_by}
use Rattle.probe_lines.proofs.servers.stop_picked.Goals as goal

pub returns : goal.returns
returns c = λ plain whole.
    let P : ServerStopped → Type 0 = λ l. Goes (state_of c.args.run.now) (stopped_by c.args.rules (state_of c.args.run.now) c.args.place l) (state_of c.server_stopped.new.run) in
    subst P c.stop_of-stop.ensures (c.in_ok-server_stopped.ensures plain whole)
