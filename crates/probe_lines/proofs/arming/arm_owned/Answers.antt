use Rattle.std.proofs.Common.{◌≡◌, Option, ℕ, position, ap, ◌∙◌, subst}
use Rattle.probe_run.specs.Runs.{state_of}
use Rattle.probe_run.specs.Counting.{Goes}
use Rattle.probe_lines.specs.Timers.{is_timer_to_arm, armed_at}
use Rattle.probe_lines.proofs.arming.arm_owned.Goals as goal

pub returns : goal.returns
returns c =
    let s = state_of c.args.run.now in
    let P : Option ℕ → Type 0 = λ i. Goes s (armed_at c.args.rules s c.args.place c.args.line c.args.first i) (state_of c.arm_asked.new.run) in
    subst P (c.timer_to_arm_place-index.ensures.place ∙ ap (λ ds. position (is_timer_to_arm c.args.place.cpu c.args.line.function) ds) c.timers_to_arm.ensures) c.in_ok-arm_asked.ensures
