use Rattle.std.proofs.Common.{◌≡◌, arith, rules, sym, ap, ◌∙◌, subst}
use Rattle.grub_wheel.specs.TimerBag.{WheelState}
use Rattle.grub_book.specs.declared.reply.Reply.TheVariants.{Waiting}
use Rattle.grub_plan.specs.declared.entry.Answer.TheVariants.{Replied}
use Rattle.grub_plan.specs.Timers.{touch_of_call}
use Rattle.grub_plan.specs.Keeping.{IsTouched}
use Rattle.grub_plan.proofs.Alarms.{is_block, later_than, places_armed, touch_waits, touched_armed}
use Rattle.grub_plan.proofs.keeping.keep.Goals as goal

pub arm-requires-clause-later : goal.arm-requires-clause-later
arm-requires-clause-later c =
    let w = c.in-Replied-Waiting in
    let is : c.args.answer ≡ Replied (Waiting w.ticket w.z) = search rules in
    later_than c.disarm.new.wheel.last w.z (λ m at. c.requires.later w.z m (sym c.disarm.ensures.last ∙ at) (c.requires.waits w.ticket w.z is))

pub returns-in-Replied-Waiting-clause-touched : goal.returns-in-Replied-Waiting-clause-touched
returns-in-Replied-Waiting-clause-touched c =
    let w = c.in-Replied-Waiting in let old = c.args.wheel.now.timers in
    let is : c.args.answer ≡ Replied (Waiting w.ticket w.z) = search rules in
    let arms = touch_waits c.args.op w.z w.ticket (c.requires.waits w.ticket w.z is) in
    subst (IsTouched old c.arm.new.self.timers c.args.t) (sym (ap (touch_of_call c.args.op) is ∙ arms))
    (touched_armed old c.disarm.new.wheel.timers c.arm.new.self.timers c.args.t w.z w.ticket c.disarm.ensures.touched (ap (λ (k : WheelState). k.timers) c.arm.ensures))

pub returns-in-Replied-Waiting-clause-places : goal.returns-in-Replied-Waiting-clause-places
returns-in-Replied-Waiting-clause-places c =
    let w = c.in-Replied-Waiting in
    let is : c.args.answer ≡ Replied (Waiting w.ticket w.z) = search rules in
    let room = c.requires.room (is_block c.args.op w.z (c.requires.waits w.ticket w.z is)) in
    places_armed c.disarm.new.wheel c.arm.new.self (record { z = w.z; t = c.args.t; ticket = w.ticket }) (omega (arith, room, c.disarm.ensures.spare)) c.disarm.ensures.free c.arm.ensures ∙ c.disarm.ensures.places
