use Rattle.std.proofs.Common.{◌≡◌, Some, refl, sym, ◌∙◌, ap, ◌<◌, ◌+◌, List, length, subst, arith}
use Rattle.grub_wheel.specs.declared.node.Node.{Node}
use Rattle.grub_wheel.specs.TimerBag.{WheelState}
use Rattle.grub_wheel.specs.inside.Nodes.{moments, timers_of, AreOthersKept}
use Rattle.grub_wheel.proofs.NodeReads.{node_read, lent_back}
use Rattle.grub_wheel.proofs.Apart.{bag_take}
use Rattle.grub_wheel.proofs.Scans.{armed_within}
use Rattle.grub_wheel.proofs.Hashed.{take_hashed, hashed_as, mapped_as, moved_on}
use Rattle.grub_wheel.proofs.Marked.{marked_as, take_marked}
use Rattle.grub_wheel.proofs.Views.{state_of, taking_state}
use Rattle.grub_wheel.proofs.Dues.{due_is, none_due, none_later, due_armed, due_least, rest_after}
use Rattle.grub_wheel.proofs.wheel.Wheel.due.Goals as goal

pub returns-in_default-clause-none : goal.returns-in_default-clause-none
returns-in_default-clause-none c =
    let ns = c.self.inside.nodes.items in
    none_later ns _ _ _ c.self.view_is c.args.m (none_due ns c.deref.result.now c.args.m c.earliest.result c.deref.ensures.value c.earliest.ensures c.in_default.is)

pub returns-then-from-self-clause-none : goal.returns-then-from-self-clause-none
returns-then-from-self-clause-none c =
    let ns = c.self.inside.nodes.items in
    none_later ns _ _ _ c.self.view_is c.args.m (λ j a. let l = c.self.invariant.hashed.after j a in omega (arith, l, c.if-from-self.true, c.from.ensures))

pub invariant_of-self-2 : goal.invariant_of-self-2
invariant_of-self-2 c =
    let ns = c.self.inside.nodes.items in
    let ms = c.take.new.nodes in
    let gs = c.take.new.heads in
    let i = c.in-Some.first in
    let h = c.self.invariant.hashed in
    let d = due_is ns c.deref.result.now c.args.m i c.earliest.result c.deref.ensures.value c.earliest.ensures c.in-Some.is in
    let w : i < length ns = armed_within ns i d.armed in
    let others : AreOthersKept ns ms i = subst (λ (x : List Node). AreOthersKept x ms i) c.deref_mut.ensures.value c.take.ensures.others in
    let size = others.size in
    let count = c.take.ensures.sound.count in
    let n = node_read ns i c.index.result.now w c.index.ensures in
    let z : c.from-self-inside.result ≡ moments ns i = c.from-self-inside.ensures ∙ sym (ap (λ (x : Node). x.timer.z) n) in
    let taken = take_hashed ns ms c.self.inside.heads.items gs c.self.inside.free i c.self.inside.spare c.self.inside.from h w d.armed c.take.ensures.sound c.take.ensures.here others in
    let after = rest_after ns _ _ _ c.self.view_is c.self.inside.heads.items h.sound c.args.m i d c.index.result.now.timer (ap (λ (x : Node). x.timer) n) ms others c.take.ensures.here.armed in
    let heads = lent_back c.self.inside.heads.len gs c.self.inside.heads.items (omega (arith, count, h.sound.count, c.self.inside.heads.ok.0)) in
    record {
      hashed =
          hashed_as ms _ gs _ (Some i) _ _ _
          (lent_back c.self.inside.nodes.len ms ns (omega (arith, size, c.self.inside.nodes.ok.0)))
          heads
          refl
          (moved_on ms gs (Some i) (c.self.inside.spare + 1) c.self.inside.from c.from-self-inside.result taken (λ j b. let q = after j b in omega (arith, q, z)));
      mapped = mapped_as c.take.new.used gs _ heads c.take.ensures.mapped;
      marked =
          marked_as c.note_taken.new.tasks ms _
          (lent_back c.self.inside.nodes.len ms ns (omega (arith, size, c.self.inside.nodes.ok.0)))
          (take_marked c.self.inside.tasks c.note_taken.new.tasks ns ms i _ c.self.invariant.marked others c.take.ensures.here.armed h.sound.apart d.armed (ap (λ (x : Node). x.timer.t) n) c.note_taken.ensures);
    }

pub returns-clause-armed : goal.returns-clause-armed
returns-clause-armed c =
    let ns = c.self.inside.nodes.items in
    let i = c.in-Some.first in
    let d = due_is ns c.deref.result.now c.args.m i c.earliest.result c.deref.ensures.value c.earliest.ensures c.in-Some.is in
    let n = node_read ns i c.index.result.now (armed_within ns i d.armed) c.index.ensures in
    due_armed ns _ _ _ c.self.view_is c.self.inside.heads.items c.self.invariant.hashed.sound c.args.m i d c.index.result.now.timer (ap (λ (x : Node). x.timer) n)

pub returns-clause-least : goal.returns-clause-least
returns-clause-least c =
    let ns = c.self.inside.nodes.items in
    let i = c.in-Some.first in
    let d = due_is ns c.deref.result.now c.args.m i c.earliest.result c.deref.ensures.value c.earliest.ensures c.in-Some.is in
    let n = node_read ns i c.index.result.now (armed_within ns i d.armed) c.index.ensures in
    due_least ns _ _ _ c.self.view_is c.self.inside.heads.items c.self.invariant.hashed.sound c.args.m i d c.index.result.now.timer (ap (λ (x : Node). x.timer) n)

pub returns-clause-taken : goal.returns-clause-taken
returns-clause-taken c =
    let ns = c.self.inside.nodes.items in
    let ms = c.take.new.nodes in
    let i = c.in-Some.first in
    let d = due_is ns c.deref.result.now c.args.m i c.earliest.result c.deref.ensures.value c.earliest.ensures c.in-Some.is in
    let n = node_read ns i c.index.result.now (armed_within ns i d.armed) c.index.ensures in
    let others : AreOthersKept ns ms i = subst (λ (x : List Node). AreOthersKept x ms i) c.deref_mut.ensures.value c.take.ensures.others in
    let size = others.size in
    ap (λ (x : List Node). state_of (timers_of x) (c.self.inside.spare + 1) (Some c.args.m)) (lent_back c.self.inside.nodes.len ms ns (omega (arith, size, c.self.inside.nodes.ok.0)))
    ∙ taking_state (timers_of ns) (timers_of ms) c.index.result.now.timer.t c.self.inside.spare c.self.inside.last (Some c.args.m) _ c.self.view_is
    (bag_take ns ms i others c.take.ensures.here.armed c.index.result.now.timer.t c.self.invariant.hashed.sound.apart d.armed (ap (λ (x : Node). x.timer.t) n))

pub invariant_of-self : goal.invariant_of-self
invariant_of-self c = record { hashed = c.self.invariant.hashed; mapped = c.self.invariant.mapped; marked = c.self.invariant.marked }

pub returns-then-from-self-clause-kept : goal.returns-then-from-self-clause-kept
returns-then-from-self-clause-kept c = ap (λ (w : WheelState). record { timers = w.timers; spare = w.spare; last = Some c.args.m }) c.self.view_is

pub earliest-requires-clause-sound : goal.earliest-requires-clause-sound
earliest-requires-clause-sound c = rw (c.deref.ensures.value, c.deref-2.ensures.value) c.self.invariant.hashed.sound

pub earliest-requires-clause-mapped : goal.earliest-requires-clause-mapped
earliest-requires-clause-mapped c = rw c.deref-2.ensures.value c.self.invariant.mapped

pub earliest-requires-clause-after : goal.earliest-requires-clause-after
earliest-requires-clause-after c = rw c.deref.ensures.value c.self.invariant.hashed.after

pub bound_after-self-inside-requires-clause-sound : goal.bound_after-self-inside-requires-clause-sound
bound_after-self-inside-requires-clause-sound c = rw (c.deref-in_default.ensures.value, c.deref-in_default-2.ensures.value) c.self.invariant.hashed.sound

pub bound_after-self-inside-requires-clause-mapped : goal.bound_after-self-inside-requires-clause-mapped
bound_after-self-inside-requires-clause-mapped c = rw c.deref-in_default-2.ensures.value c.self.invariant.mapped

pub bound_after-self-inside-requires-clause-later : goal.bound_after-self-inside-requires-clause-later
bound_after-self-inside-requires-clause-later c = rw c.deref-in_default.ensures.value (none_due c.self.inside.nodes.items c.deref.result.now c.args.m c.earliest.result c.deref.ensures.value c.earliest.ensures c.in_default.is)

pub invariant_of-self-in_default : goal.invariant_of-self-in_default
invariant_of-self-in_default c =
    let inside = c.self.inside in
    let bound = rw c.deref-in_default.ensures.value at c.bound_after-self-inside.ensures.bound in
    record { hashed = moved_on inside.nodes.items inside.heads.items inside.free inside.spare inside.from c.bound_after-self-inside.result c.self.invariant.hashed bound; mapped = c.self.invariant.mapped; marked = c.self.invariant.marked }

pub returns-in_default-clause-kept : goal.returns-in_default-clause-kept
returns-in_default-clause-kept c = ap (λ (w : WheelState). record { timers = w.timers; spare = w.spare; last = Some c.args.m }) c.self.view_is

pub index-requires : goal.index-requires
index-requires c =
    let ns = c.self.inside.nodes.items in
    let i = c.in-Some.first in
    let d = due_is ns c.deref.result.now c.args.m i c.earliest.result c.deref.ensures.value c.earliest.ensures c.in-Some.is in
    omega (arith, armed_within ns i d.armed, c.self.inside.nodes.ok.0)

pub take-requires-clause-sound : goal.take-requires-clause-sound
take-requires-clause-sound c = rw (c.deref_mut.ensures.value, c.deref_mut-2.ensures.value) c.self.invariant.hashed.sound

pub take-requires-clause-mapped : goal.take-requires-clause-mapped
take-requires-clause-mapped c = rw c.deref_mut-2.ensures.value c.self.invariant.mapped

pub take-requires-clause-within : goal.take-requires-clause-within
take-requires-clause-within c =
    let ns = c.self.inside.nodes.items in
    let i = c.in-Some.first in
    let d = due_is ns c.deref.result.now c.args.m i c.earliest.result c.deref.ensures.value c.earliest.ensures c.in-Some.is in
    rw c.deref_mut.ensures.value (armed_within ns i d.armed)

pub take-requires-clause-armed : goal.take-requires-clause-armed
take-requires-clause-armed c =
    let ns = c.self.inside.nodes.items in
    let i = c.in-Some.first in
    let d = due_is ns c.deref.result.now c.args.m i c.earliest.result c.deref.ensures.value c.earliest.ensures c.in-Some.is in
    rw c.deref_mut.ensures.value d.armed
