use Rattle.std.proofs.Common.{◌≡◌, ℕ, ◌<◌, ◌||◌, ◌&&◌, true, eqb, ltb, List, Option, Some, ◌∙◌, sym, subst}
use Rattle.grub_wheel.specs.declared.node.Node.{Node}
use Rattle.grub_wheel.specs.declared.timer.Timer.{Timer}
use Rattle.grub_wheel.specs.inside.Nodes.{AreInSlots, Armed, keys, slots, links, head_of, key_of, node_at, tasks}
use Rattle.grub_wheel.proofs.Keys.{before_key}
use Rattle.grub_wheel.proofs.Walks.{IsReached, way_left, stands_on, steps_on, goes_on}
use Rattle.grub_wheel.proofs.chains.before.Goals as goal

-- behind a node before the timer there is less of the way left, and the walk has come there
walks_on : (ns : List Node) (heads : List (Option ℕ)) (slot : ℕ) (timer : Timer) (before at : Option ℕ) (i : ℕ) → AreInSlots ns heads → at ≡ Some i
    → (ltb (node_at ns i).timer.z timer.z || (eqb (node_at ns i).timer.z timer.z && ltb (tasks ns i) timer.t)) ≡ true
    → IsReached (Armed ns) (keys ns) (slots ns) slot (key_of timer) before at
    → (way_left (keys ns) (key_of timer) (links ns i) < way_left (keys ns) (key_of timer) at) × IsReached (Armed ns) (keys ns) (slots ns) slot (key_of timer) (Some i) (links ns i)
walks_on ns heads slot timer before at i h is soon reached =
    let k = key_of timer in
    let here = subst (λ (o : Option ℕ). IsReached (Armed ns) (keys ns) (slots ns) slot k before o) is reached in
    let on = stands_on (Armed ns) (keys ns) (slots ns) (links ns) (head_of heads) slot k before i here in
    let lt = before_key (node_at ns i).timer.z (tasks ns i) timer.z timer.t (h.narrow i on.armed) soon in (
      subst (λ (o : Option ℕ). way_left (keys ns) k (links ns i) < way_left (keys ns) k o) (sym is) (goes_on (Armed ns) (keys ns) (slots ns) (links ns) (head_of heads) slot k i h.chained on.armed lt),
      steps_on (Armed ns) (keys ns) (slots ns) (links ns) (head_of heads) slot k before i h.chained here lt,
    )

pub loop-at-smaller : goal.loop-at-smaller
loop-at-smaller c = (walks_on c.args.nodes.now c.args.heads.now c.args.slot c.args.timer c.loop-at.before _ c.in-Some.i c.requires.sound c.in-Some.is (sym c.is_before.ensures ∙ c.if-not-is_before.false) c.loop-at.invariant).0

pub loop-at-preserved : goal.loop-at-preserved
loop-at-preserved c = (walks_on c.args.nodes.now c.args.heads.now c.args.slot c.args.timer c.loop-at.before _ c.in-Some.i c.requires.sound c.in-Some.is (sym c.is_before.ensures ∙ c.if-not-is_before.false) c.loop-at.invariant).1
