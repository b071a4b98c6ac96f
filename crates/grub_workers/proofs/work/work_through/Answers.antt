use Rattle.std.proofs.Common.{ap}
use Rattle.grub_wheel.specs.TimerBag.{WheelState}
use Rattle.grub_workers.proofs.NothingAsked.{at_work_first}
use Rattle.grub_workers.proofs.work.work_through.Goals as goal

pub ask_script-requires-clause-at_work : goal.ask_script-requires-clause-at_work
ask_script-requires-clause-at_work g c κs κ =
    let d = c.args.desk.now in
    at_work_first d.table.now d.tries d.number c.args.pass (record { entries = c.in_ok-entries.entries; wheel = c.in-Ok.wheel; calls = 0 }) c.requires.fresh c.in_ok-entries.ensures.items (ap (λ (w : WheelState). w.timers) c.in-Ok.ensures)
