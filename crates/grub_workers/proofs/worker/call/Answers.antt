use Rattle.std.proofs.Common.{ap, ◌∙◌, subst}
use Rattle.grub_wheel.specs.TimerBag.{TimerBag, WheelState}
use Rattle.grub_plan.specs.Timers.{touch_of_call}
use Rattle.grub_plan.specs.Keeping.{IsTouched}
use Rattle.grub_workers.specs.inside.Working.{machine}
use Rattle.grub_plan.proofs.Kept.{kept_call}
use Rattle.grub_workers.proofs.worker.call.Goals as goal

-- A place was made and an entry put, which leave the timers, and then the answer touched them.
pub returns-clause-at_work : goal.returns-clause-at_work
returns-clause-at_work g c =
    let a = c.args in let put = c.put.new.progress in let answer = c.in_ok-pass.answer in
    let same = ap (λ (w : WheelState). w.timers) c.in_ok-pass.ensures.wheel ∙ c.in_ok-make_room.ensures.same.0 in
    let touched = subst (λ (timers : TimerBag). IsTouched timers c.keep.new.wheel.timers a.t (touch_of_call a.op answer)) same c.keep.ensures.touched in record {
      told = c.in_ok-pass.ensures.told;
      kept = kept_call (machine a.desk.now.table.now) a.m a.t a.op answer a.progress.now.entries.items put.entries.items a.progress.now.wheel.timers c.keep.new.wheel.timers c.requires.at_work.kept c.requires.task c.in_ok-pass.ensures.list touched;
    }
