use Rattle.std.proofs.Common.{ap}
use Rattle.grub_wheel.specs.TimerBag.{WheelState}
use Rattle.grub_plan.proofs.Alarms.{cancelled, places_disarmed, touched_removed, removed_none}
use Rattle.grub_plan.proofs.keeping.disarm.Goals as goal

pub returns-in-Some-clause-touched : goal.returns-in-Some-clause-touched
returns-in-Some-clause-touched c =
    let x = c.in-Some.timer in let e = c.cancel.ensures in
    let is = cancelled c.args.wheel.now c.cancel.new.self x c.args.t c.cancel.result c.in-Some.ensures.armed c.in-Some.ensures.task e.answer.1 e.taken in
    touched_removed c.args.wheel.now.timers c.cancel.new.self.timers c.args.t (ap (λ (w : WheelState). w.timers) is)

pub returns-in-Some-clause-free : goal.returns-in-Some-clause-free
returns-in-Some-clause-free c =
    let x = c.in-Some.timer in let e = c.cancel.ensures in
    let is = cancelled c.args.wheel.now c.cancel.new.self x c.args.t c.cancel.result c.in-Some.ensures.armed c.in-Some.ensures.task e.answer.1 e.taken in
    removed_none c.args.wheel.now.timers c.cancel.new.self.timers c.args.t (ap (λ (w : WheelState). w.timers) is)

pub returns-in-Some-clause-places : goal.returns-in-Some-clause-places
returns-in-Some-clause-places c =
    let x = c.in-Some.timer in let e = c.cancel.ensures in
    let is = cancelled c.args.wheel.now c.cancel.new.self x c.args.t c.cancel.result c.in-Some.ensures.armed c.in-Some.ensures.task e.answer.1 e.taken in
    places_disarmed c.args.wheel.now c.cancel.new.self x c.args.t c.in-Some.ensures.armed c.in-Some.ensures.task is
