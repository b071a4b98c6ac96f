use Rattle.std.proofs.Common.{arith, length, ◌≡◌, ◌<◌}
use Rattle.grub_wheel.proofs.Puts.{put_sound}
use Rattle.grub_wheel.proofs.chains.put.Goals as goal

pub returns-clause-sound : goal.returns-clause-sound
returns-clause-sound c =
    let r = c.requires in
    let len : length c.point.new.heads ≡ length c.args.heads.now = omega (arith, c.point.auto.heads) in
    let t : c.args.timer.t < 4294967296 = omega arith in
    (put_sound c.args.nodes.now c.point.new.nodes c.args.heads.now c.point.new.heads c.args.i c.slot_of-slot.result c.before-before.result r.sound r.within len
    c.args.timer c.after-next.result c.slot_of-slot.ensures r.free r.other t c.before-before.ensures c.after-next.ensures c.point.ensures).0
