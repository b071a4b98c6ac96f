use Rattle.grub_wheel.specs.inside.Nodes.{Armed, keys, slots, key_of}
use Rattle.grub_wheel.proofs.Walks.{IsReached, way_left}
use Rattle.grub_wheel.proofs.chains.before.Given as goal

abbrev pub invariant-loop-at : goal.invariant-loop-at
invariant-loop-at l = IsReached (Armed l.nodes) (keys l.nodes) (slots l.nodes) l.slot (key_of l.timer) l.before l.at

abbrev pub decreases-loop-at : goal.decreases-loop-at
decreases-loop-at l = way_left (keys l.nodes) (key_of l.timer) l.at
