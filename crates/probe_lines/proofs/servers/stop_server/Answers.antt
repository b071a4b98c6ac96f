use Rattle.std.proofs.Common.{◌≡◌, ℕ, Bool, ◌&&◌, ap, ◌∙◌, subst, sym}
use Rattle.probe_run.specs.Runs.{state_of}
use Rattle.probe_run.specs.State.{State, actor_at, with_task, with_server}
use Rattle.probe_run.specs.declared.actor.Actor.{Actor}
use Rattle.probe_run.specs.Counting.{Goes, where_it_holds}
use Rattle.probe_values.specs.Shown.{sums_agree, contending_agrees}
use Rattle.probe_lines.specs.Servers.{serving_by, stopped_next}
use Rattle.probe_lines.proofs.servers.stop_server.Goals as goal

pub returns : goal.returns
returns c = λ plain whole.
    let s = state_of c.args.run.now in let l = c.args.line in let p = c.args.place in let n = c.args.number in
    let P : Actor → Type 0 = λ a. Goes s (where_it_holds (sums_agree s a.cpu l.sums && contending_agrees a l.is_non_contending) (stopped_next c.args.rules s p n a l)) (state_of c.stop.new.run) in
    subst P (c.serving.ensures ∙ ap (λ a. serving_by a l.cpu l.dl_runtime l.dl_period) c.actor-actor.ensures) (c.in_ok-stop.ensures plain whole)
