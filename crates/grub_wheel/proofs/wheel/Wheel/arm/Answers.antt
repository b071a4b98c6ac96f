use Rattle.std.proofs.Common.{refl, sym, ◌∙◌, ap, ◌-◌, List, subst, arith}
use Rattle.grub_wheel.specs.declared.timer.Timer.{Timer}
use Rattle.grub_wheel.specs.declared.node.Node.{Node}
use Rattle.grub_wheel.specs.inside.Nodes.{timers_of, links, AreOthersKept}
use Rattle.grub_wheel.proofs.NodeReads.{node_read, lent_back}
use Rattle.grub_wheel.proofs.Apart.{bag_put}
use Rattle.grub_wheel.proofs.FreePlaces.{free_head, some_free}
use Rattle.grub_wheel.proofs.Hashed.{put_hashed, hashed_as, mapped_as, no_task}
use Rattle.grub_wheel.proofs.Marked.{marked_as, put_marked}
use Rattle.grub_wheel.proofs.Views.{state_of, arming_state}
use Rattle.grub_wheel.proofs.wheel.Wheel.arm.Goals as goal

pub unreachable-requires : goal.unreachable-requires
unreachable-requires c =
    let h = c.self.invariant.hashed in
    some_free c.self.inside.nodes.items h.places c.self.inside.free c.self.inside.spare h.linked h.room (omega (arith, c.requires.room, ap (λ w. w.spare) c.self.view_is)) c.in_default.is

pub index-requires : goal.index-requires
index-requires c =
    let h = c.self.invariant.hashed in
    let f = free_head c.self.inside.nodes.items h.places c.self.inside.free c.self.inside.spare c.in-Some.i h.linked h.room c.in-Some.is in
    let w = f.within in
    omega (arith, w, c.self.inside.nodes.ok.0)

pub put-requires-clause-within : goal.put-requires-clause-within
put-requires-clause-within c =
    let h = c.self.invariant.hashed in
    let f = free_head c.self.inside.nodes.items h.places c.self.inside.free c.self.inside.spare c.in-Some.i h.linked h.room c.in-Some.is in
    rw c.deref_mut.ensures.value f.within

pub put-requires-clause-free : goal.put-requires-clause-free
put-requires-clause-free c =
    let h = c.self.invariant.hashed in
    let f = free_head c.self.inside.nodes.items h.places c.self.inside.free c.self.inside.spare c.in-Some.i h.linked h.room c.in-Some.is in
    rw c.deref_mut.ensures.value f.off

pub put-requires-clause-other : goal.put-requires-clause-other
put-requires-clause-other c = no_task c.self.inside.nodes.items c.deref_mut.result.now _ _ _ c.args.t c.self.view_is c.deref_mut.ensures.value c.requires.free

pub invariant_of-self : goal.invariant_of-self
invariant_of-self c =
    let ns = c.self.inside.nodes.items in
    let ms = c.put.new.nodes in
    let gs = c.put.new.heads in
    let i = c.in-Some.i in
    let x : Timer = record { z = c.args.z; t = c.args.t; ticket = c.args.ticket } in
    let h = c.self.invariant.hashed in
    let f = free_head ns h.places c.self.inside.free c.self.inside.spare i h.linked h.room c.in-Some.is in
    let others : AreOthersKept ns ms i = subst (λ (d : List Node). AreOthersKept d ms i) c.deref_mut.ensures.value c.put.ensures.others in
    let size = others.size in
    let n = node_read ns i c.index.result.now f.within c.index.ensures in
    let count = c.put.ensures.sound.count in
    let heads = lent_back c.self.inside.heads.len gs c.self.inside.heads.items (omega (arith, count, h.sound.count, c.self.inside.heads.ok.0)) in
    record {
      hashed =
          hashed_as ms _ gs _ (links ns i) _ _ _
          (lent_back c.self.inside.nodes.len ms ns (omega (arith, size, c.self.inside.nodes.ok.0)))
          heads
          (sym (ap (λ (y : Node). y.next) n))
          (put_hashed ns ms c.self.inside.heads.items gs c.self.inside.free i c.self.inside.spare c.self.inside.from _ x h c.in-Some.is c.put.ensures.sound c.put.ensures.here others (omega arith) (omega arith));
      mapped = mapped_as c.put.new.used gs _ heads c.put.ensures.mapped;
      marked =
          marked_as c.note_armed.new.tasks ms _
          (lent_back c.self.inside.nodes.len ms ns (omega (arith, size, c.self.inside.nodes.ok.0)))
          (put_marked c.self.inside.tasks c.note_armed.new.tasks ns ms i x c.self.invariant.marked others c.put.ensures.here (no_task ns ns _ _ _ c.args.t c.self.view_is refl c.requires.free) c.note_armed.ensures.here c.note_armed.ensures.others);
    }

pub returns : goal.returns
returns c =
    let ns = c.self.inside.nodes.items in
    let ms = c.put.new.nodes in
    let i = c.in-Some.i in
    let x : Timer = record { z = c.args.z; t = c.args.t; ticket = c.args.ticket } in
    let h = c.self.invariant.hashed in
    let f = free_head ns h.places c.self.inside.free c.self.inside.spare i h.linked h.room c.in-Some.is in
    let others : AreOthersKept ns ms i = subst (λ (d : List Node). AreOthersKept d ms i) c.deref_mut.ensures.value c.put.ensures.others in
    let size = others.size in
    let other = no_task ns ns _ _ _ c.args.t c.self.view_is refl c.requires.free in
    ap (λ (d : List Node). state_of (timers_of d) (c.self.inside.spare - 1) c.self.inside.last) (lent_back c.self.inside.nodes.len ms ns (omega (arith, size, c.self.inside.nodes.ok.0)))
    ∙ arming_state (timers_of ns) (timers_of ms) x c.self.inside.spare c.self.inside.last _ c.self.view_is (bag_put ns ms i others x c.put.ensures.here other h.sound.apart f.off)
