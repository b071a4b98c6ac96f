use Rattle.std.proofs.Common.{◌≡◌, ◌∙◌, subst}
use Rattle.probe_run.specs.Runs.{state_of}
use Rattle.probe_run.specs.declared.actor.Actor.{Actor}
use Rattle.probe_run.specs.Counting.{Goes}
use Rattle.probe_tasks.specs.Runs.{updated_with}
use Rattle.probe_tasks.proofs.runs.update_task.Goals as goal

pub returns : goal.returns
returns c = λ plain whole.
    let q = c.args.charge in let s = state_of c.args.run.now in
    let P : Actor → Type 0 = λ a. Goes s (updated_with c.args.rules s q.place q.number a q.line q.choice) (state_of c.update_known.new.run) in
    subst P (c.on_tree-actor.ensures whole ∙ c.actor-known.ensures) (c.in_ok-update_known.ensures plain whole)
