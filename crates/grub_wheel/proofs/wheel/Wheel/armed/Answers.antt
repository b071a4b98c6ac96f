use Rattle.std.proofs.Common.{◌≡◌, Some, sym, ◌∙◌, ap, ◌<◌, length}
use Rattle.grub_wheel.specs.declared.node.Node.{Node}
use Rattle.grub_wheel.specs.inside.Nodes.{Armed, tasks, timers_of}
use Rattle.grub_wheel.proofs.Apart.{look_is, look_not}
use Rattle.grub_wheel.proofs.NodeReads.{node_read}
use Rattle.grub_wheel.proofs.Views.{looks, is_armed}
use Rattle.grub_wheel.proofs.wheel.Wheel.armed.Goals as goal

pub returns-clause-armed : goal.returns-clause-armed
returns-clause-armed c =
    let ns = c.self.inside.nodes.items in
    let e = c.deref.ensures.value in
    let a : Armed ns c.in_ok-i.i = rw e at c.in_ok-i.ensures.armed in
    let t : tasks ns c.in_ok-i.i ≡ c.args.t = rw e at c.in_ok-i.ensures.task in
    let w : c.in_ok-i.i < length ns = rw e at c.in_ok-i.ensures.within in
    let n = node_read ns c.in_ok-i.i c.index.result.now w c.index.ensures in
    is_armed (timers_of ns) _ _ _ c.args.t c.index.result.now.timer c.self.view_is
    (look_is ns c.in_ok-i.i c.args.t c.self.invariant.hashed.sound.apart a t ∙ ap (λ (x : Node). Some (x.timer.z, x.timer.ticket)) n)
    (sym (ap (λ (x : Node). x.timer.t) n) ∙ t)

pub returns-in_err-i-clause-none : goal.returns-in_err-i-clause-none
returns-in_err-i-clause-none c =
    let ns = c.self.inside.nodes.items in
    let e = c.deref.ensures.value in
    let n = rw e at c.in_err-i.ensures.none in
    rw c.from_residual.ensures (looks (timers_of ns) _ _ _ c.args.t c.self.view_is ∙ look_not ns c.args.t n)

pub place_of-requires : goal.place_of-requires
place_of-requires c = rw c.deref.ensures.value c.self.invariant.marked
