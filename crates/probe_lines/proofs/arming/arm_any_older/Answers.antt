use Rattle.std.proofs.Common.{◌≡◌, Option, subst}
use Rattle.std.specs.Prelude.{OnOk}
use Rattle.probe_run.specs.Runs.{state_of}
use Rattle.probe_run.specs.declared.waiting.OlderDequeue.{OlderDequeue}
use Rattle.probe_run.specs.Counting.{Goes}
use Rattle.probe_lines.specs.Timers.{armed_older}
use Rattle.probe_lines.proofs.arming.arm_any_older.Goals as goal

pub returns-in-Some : goal.returns-in-Some
returns-in-Some c =
    let s = state_of c.args.run.now in
    let P : Option OlderDequeue → Type 0 = λ b. OnOk c.arm_of_older.result (Goes s (armed_older s c.args.line b) (state_of c.arm_of_older.new.run)) in
    subst P c.in-Some.ensures c.arm_of_older.ensures
