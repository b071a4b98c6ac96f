use Rattle.std.proofs.Common.{◌≡◌, ℕ, ◌&&◌, subst, sym, true, None, Some}
use Rattle.probe_run.specs.Runs.{state_of}
use Rattle.probe_run.specs.State.{State, actor_at, with_task, task_number, with_server, server_number}
use Rattle.probe_run.specs.declared.actor.Actor.{Actor}
use Rattle.probe_run.specs.Counting.{Goes, where_it_holds}
use Rattle.probe_values.specs.Shown.{address_agrees}
use Rattle.probe_lines.specs.Timers.{armed_next, owner_agrees, timer_address, zero_lag_agrees}
use Rattle.probe_values.proofs.Steps.{then_made}
use Rattle.probe_lines.proofs.arming.arm.Goals as goal

pub returns : goal.returns
returns c =
    let s = state_of c.args.run.now in let m = c.args.line in let y = c.args.timer_to_arm in let i = c.args.index in
    let P : Actor → Type 0 =
    λ a. Goes s (where_it_holds (owner_agrees s (s.timers m.timer) y.entity && (address_agrees (timer_address a m.function) m.timer && zero_lag_agrees y.zero_lag m.expiry y.at c.args.place.at)) (armed_next s m i y a)) (state_of c.keep_armed.new.run) in
    subst P c.actor-actor.ensures (then_made (λ t. armed_next t m i y c.actor-actor.result) _ _ _ _
    c.in_ok-check_arm.ensures c.in_ok-keep_armed.ensures.first c.in_ok-keep_armed.ensures.state)
