use Rattle.std.proofs.Common.{arith}
use Rattle.grub_wheel.proofs.Scans.{bound_passes, bound_goes_on}
use Rattle.grub_wheel.proofs.scan.least_moment.Goals as goal

pub returns-then-next-ge-SLOTS : goal.returns-then-next-ge-SLOTS
returns-then-next-ge-SLOTS c =
    let r = c.requires in
    let ns = c.args.nodes.now in
    λ i a. bound_passes ns c.args.heads.now r.sound c.args.used.now r.mapped c.loop-slot.slot c.next_used-next.result c.loop-slot.bound c.next_used-next.ensures.none c.loop-slot.invariant.bound i a (omega (arith, c.if-next-ge-SLOTS.true))

pub loop-slot-preserved : goal.loop-slot-preserved
loop-slot-preserved c =
    let r = c.requires in
    let ns = c.args.nodes.now in
    record {
      low = omega (arith, c.if-next-ge-SLOTS.false);
      bound = bound_goes_on ns c.args.heads.now r.sound c.args.used.now r.mapped c.loop-slot.slot c.next_used-next.result c.loop-slot.bound c.next_used-next.ensures.none c.loop-slot.invariant.bound c.bound_by-bound.result (omega (arith, c.if-next-ge-SLOTS.false)) c.bound_by-bound.ensures.bound c.bound_by-bound.ensures.head;
    }
