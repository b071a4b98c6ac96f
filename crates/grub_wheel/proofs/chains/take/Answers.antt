use Rattle.std.proofs.Common.{refl, arith, length, ◌≡◌}
use Rattle.grub_wheel.proofs.Puts.{take_sound}
use Rattle.grub_wheel.proofs.chains.take.Goals as goal

pub returns-clause-sound : goal.returns-clause-sound
returns-clause-sound c =
    let r = c.requires in
    let len : length c.point.new.heads ≡ length c.args.heads.now = omega (arith, c.point.auto.heads) in
    (take_sound c.args.nodes.now c.point.new.nodes c.args.heads.now c.point.new.heads c.args.i c.slot_of-slot.result c.before-before.result r.sound r.within len
    _ refl c.slot_of-slot.ensures r.armed c.before-before.ensures c.point.ensures).0
