use Rattle.std.proofs.Common.{◌≡◌, ◌∙◌, ◌+◌, ap, List, [], ◌∷◌, ◌++◌, length, arith}
use Rattle.grub_wheel.specs.TimerBag.{TimerBag, WheelState}
use Rattle.grub_wheel.specs.declared.node.Node.{Node}
use Rattle.grub_wheel.proofs.Hashed.{free_more, bag-free_more, marked_more}
use Rattle.grub_wheel.proofs.wheel.Wheel.add_place.Goals as goal

pub invariant_of-self-2 : goal.invariant_of-self-2
invariant_of-self-2 c =
    let ns = c.self.inside.nodes.items in
    let grown = ap (λ (xs : List Node). xs ++ c.free_node.result ∷ []) c.reserve.ensures.items ∙ ap (λ (x : Node). ns ++ x ∷ []) c.free_node.ensures in
    let place : c.len-place.result ≡ length ns = omega (arith, c.len-place.ensures, c.reserve.ensures.len, c.self.inside.nodes.ok.0) in
    record {
      hashed = free_more ns _ _ c.self.inside.free c.self.inside.spare _ _ c.self.invariant.hashed (c.push_reserved.ensures.items ∙ grown) place;
      mapped = c.self.invariant.mapped;
      marked = marked_more _ ns _ c.self.inside.free c.self.invariant.marked (c.push_reserved.ensures.items ∙ grown);
    }

pub returns-clause-place : goal.returns-clause-place
returns-clause-place c =
    let ns = c.self.inside.nodes.items in
    let grown = ap (λ (xs : List Node). xs ++ c.free_node.result ∷ []) c.reserve.ensures.items ∙ ap (λ (x : Node). ns ++ x ∷ []) c.free_node.ensures in
    ap (λ (bag : TimerBag). record { timers = bag; spare = c.self.inside.spare + 1; last = c.self.inside.last }) (bag-free_more ns _ c.self.inside.free c.self.invariant.hashed.sound.apart (c.push_reserved.ensures.items ∙ grown))
    ∙ ap (λ (w : WheelState). record w { spare = w.spare + 1 }) c.self.view_is
