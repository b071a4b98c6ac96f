use Rattle.std.proofs.Common.{◌≡◌, ◌++◌, ◌∷◌, [], Some, rules, sym, ap, ◌∙◌}
use Rattle.std.proofs.lemmas.Fn.{FoldsTo-push}
use Rattle.grub_book.specs.declared.op.Op.TheVariants as ops
use Rattle.grub_wheel.specs.TimerBag.{WheelState}
use Rattle.grub_plan.specs.Asked.{AsksTimer}
use Rattle.grub_workers.specs.inside.Working.{machine}
use Rattle.grub_plan.proofs.Alarms.{len_taken, next_due, none_due, touched_removed}
use Rattle.grub_plan.proofs.Kept.{kept_call}
use Rattle.grub_workers.proofs.due.ask_due.Goals as goal

pub loop-timer-smaller : goal.loop-timer-smaller
loop-timer-smaller g c =
    let some = c.in-Some.ensures in let old = c.loop-timer.progress.wheel.timers in
    let is = ap (λ (w : WheelState). w.timers) (c.in_ok-next.ensures.wheel ∙ some.taken) in
    len_taken old c.put.new.progress.wheel.timers c.in-Some.timer some.armed is

-- The timer that was taken out is the next one of those that the entries leave.
pub loop-timer-preserved : goal.loop-timer-preserved
loop-timer-preserved g c =
    let inv = c.loop-timer.invariant in let d = c.args.desk.now in let some = c.in-Some.ensures in let x = c.in-Some.timer in
    let before = c.loop-timer.progress in let next = c.put.new.progress in let put = c.in_ok-next.ensures in let kept = inv.0.kept in
    let is = ap (λ (w : WheelState). w.timers) (put.wheel ∙ some.taken) in
    let last : next.wheel.last ≡ Some c.args.m = ap (λ (w : WheelState). w.last) (put.wheel ∙ some.taken) in
    let due = next_due before.wheel.timers before.entries.items c.args.m x kept.armed_are some.armed some.due some.least in (
      record {
        told = put.told;
        kept = kept_call (machine d.table.now) x.z x.t (ops.Timer x.ticket x.z) c.in_ok-next.field-0-1 before.entries.items next.entries.items before.wheel.timers next.wheel.timers kept
            (kept.tasks x.t _ due.armed) put.list (touched_removed before.wheel.timers next.wheel.timers x.t is);
      },
      (λ k at. let same : Some c.args.m ≡ Some k = sym last ∙ at in grind rules),
      (
        inv.2.0 ++ x ∷ [],
        FoldsTo-push (AsksTimer c.args.m) _ inv.2.0 before.entries.items x _ inv.2.1 (record { next = due; asks = record { answer = _; list = put.list } }),
      ),
    )

pub returns-clause-asked : goal.returns-clause-asked
returns-clause-asked g c =
    let inv = c.loop-timer.invariant in let before = c.loop-timer.progress in
    record {
      timers = inv.2.0;
      each = inv.2.1;
      none = none_due before.wheel.timers before.entries.items c.args.m inv.0.kept.armed_are c.in_default.ensures.none;
    }
