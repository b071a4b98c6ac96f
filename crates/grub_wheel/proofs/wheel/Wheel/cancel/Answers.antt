use Rattle.std.proofs.Common.{◌≡◌, Some, refl, sym, ◌∙◌, ap, ◌<◌, ◌+◌, List, length, subst, arith}
use Rattle.grub_wheel.specs.declared.node.Node.{Node}
use Rattle.grub_wheel.specs.inside.Nodes.{Armed, tasks, timers_of, AreOthersKept}
use Rattle.grub_wheel.proofs.Bags.{has_ticket, other_ticket, no_ticket}
use Rattle.grub_wheel.proofs.NodeReads.{node_read, lent_back}
use Rattle.grub_wheel.proofs.Apart.{look_is, look_not, bag_take}
use Rattle.grub_wheel.proofs.Hashed.{take_hashed, hashed_as, mapped_as}
use Rattle.grub_wheel.proofs.Marked.{marked_as, take_marked}
use Rattle.grub_wheel.proofs.Views.{state_of, looks, cancelling_state}
use Rattle.grub_wheel.proofs.wheel.Wheel.cancel.Goals as goal

pub invariant_of-self : goal.invariant_of-self
invariant_of-self c =
    let ns = c.self.inside.nodes.items in
    let ms = c.take.new.nodes in
    let gs = c.take.new.heads in
    let i = c.in-Some.i in
    let h = c.self.invariant.hashed in
    let e = c.deref.ensures.value in
    let a : Armed ns i = rw e at c.in-Some.ensures.armed in
    let t : tasks ns i ≡ c.args.t = rw e at c.in-Some.ensures.task in
    let w : i < length ns = rw e at c.in-Some.ensures.within in
    let others : AreOthersKept ns ms i = subst (λ (d : List Node). AreOthersKept d ms i) c.deref_mut.ensures.value c.take.ensures.others in
    let size = others.size in
    let count = c.take.ensures.sound.count in
    let heads = lent_back c.self.inside.heads.len gs c.self.inside.heads.items (omega (arith, count, h.sound.count, c.self.inside.heads.ok.0)) in
    record {
      hashed =
          hashed_as ms _ gs _ (Some i) _ _ _
          (lent_back c.self.inside.nodes.len ms ns (omega (arith, size, c.self.inside.nodes.ok.0)))
          heads
          refl
          (take_hashed ns ms c.self.inside.heads.items gs c.self.inside.free i c.self.inside.spare c.self.inside.from h w a c.take.ensures.sound c.take.ensures.here others);
      mapped = mapped_as c.take.new.used gs _ heads c.take.ensures.mapped;
      marked =
          marked_as c.note_taken.new.tasks ms _
          (lent_back c.self.inside.nodes.len ms ns (omega (arith, size, c.self.inside.nodes.ok.0)))
          (take_marked c.self.inside.tasks c.note_taken.new.tasks ns ms i c.args.t c.self.invariant.marked others c.take.ensures.here.armed h.sound.apart a t c.note_taken.ensures);
    }

pub returns-in-Some-clause-answer : goal.returns-in-Some-clause-answer
returns-in-Some-clause-answer c =
    let ns = c.self.inside.nodes.items in
    let i = c.in-Some.i in
    let e = c.deref.ensures.value in
    let a : Armed ns i = rw e at c.in-Some.ensures.armed in
    let t : tasks ns i ≡ c.args.t = rw e at c.in-Some.ensures.task in
    let w : i < length ns = rw e at c.in-Some.ensures.within in
    let n = node_read ns i c.index.result.now w c.index.ensures in
    (λ _. has_ticket _ _ _ c.args.ticket (looks (timers_of ns) _ _ _ c.args.t c.self.view_is ∙ look_is ns i c.args.t c.self.invariant.hashed.sound.apart a t) (ap (λ (x : Node). x.timer.ticket) n ∙ c.if-index-ticket.true), λ _. refl)

pub returns-in-Some-clause-taken : goal.returns-in-Some-clause-taken
returns-in-Some-clause-taken c =
    let ns = c.self.inside.nodes.items in
    let ms = c.take.new.nodes in
    let i = c.in-Some.i in
    let e = c.deref.ensures.value in
    let a : Armed ns i = rw e at c.in-Some.ensures.armed in
    let t : tasks ns i ≡ c.args.t = rw e at c.in-Some.ensures.task in
    let others : AreOthersKept ns ms i = subst (λ (d : List Node). AreOthersKept d ms i) c.deref_mut.ensures.value c.take.ensures.others in
    let size = others.size in
    ap (λ (d : List Node). state_of (timers_of d) (c.self.inside.spare + 1) c.self.inside.last) (lent_back c.self.inside.nodes.len ms ns (omega (arith, size, c.self.inside.nodes.ok.0)))
    ∙ cancelling_state (timers_of ns) (timers_of ms) c.args.t c.self.inside.spare c.self.inside.last _ c.self.view_is (bag_take ns ms i others c.take.ensures.here.armed c.args.t c.self.invariant.hashed.sound.apart a t)

pub returns-in_default-clause-answer : goal.returns-in_default-clause-answer
returns-in_default-clause-answer c =
    let ns = c.self.inside.nodes.items in
    let i = c.in-Some.i in
    let e = c.deref.ensures.value in
    let a : Armed ns i = rw e at c.in-Some.ensures.armed in
    let t : tasks ns i ≡ c.args.t = rw e at c.in-Some.ensures.task in
    let w : i < length ns = rw e at c.in-Some.ensures.within in
    let n = node_read ns i c.index.result.now w c.index.ensures in (
      λ f. absurd cc,
      λ h. absurd (other_ticket _ _ _ c.args.ticket (looks (timers_of ns) _ _ _ c.args.t c.self.view_is ∙ look_is ns i c.args.t c.self.invariant.hashed.sound.apart a t)
          (λ k. c.if-index-ticket.false (sym (ap (λ (x : Node). x.timer.ticket) n) ∙ k)) h),
    )

pub returns-in_default-2-clause-answer : goal.returns-in_default-2-clause-answer
returns-in_default-2-clause-answer c =
    let ns = c.self.inside.nodes.items in
    let e = c.deref.ensures.value in
    let n = rw e at c.in_default.ensures.none in
    (λ f. absurd cc, λ h. absurd (no_ticket _ c.args.ticket (looks (timers_of ns) _ _ _ c.args.t c.self.view_is ∙ look_not ns c.args.t n) h))

pub place_of-requires : goal.place_of-requires
place_of-requires c = rw c.deref.ensures.value c.self.invariant.marked
