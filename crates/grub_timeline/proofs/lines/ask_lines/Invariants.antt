use Rattle.std.proofs.Common.{◌≡◌, ◌<◌, vec_capacity}
use Rattle.grub_timeline.specs.Order.{left}
use Rattle.grub_timeline.specs.inside.Merge.{IsMidway}
use Rattle.grub_timeline.proofs.lines.ask_lines.Given as goal

-- some lines were asked
abbrev pub invariant-loop-done : goal.invariant-loop-done
invariant-loop-done l =
    IsMidway l.plan l.player l.done.items
    × (l.player.start.value.items ≡ l.fn.player.start.value.items)
    × (vec_capacity l.player.chunk ≡ vec_capacity l.fn.player.chunk)
    × (left l.plan.scripts l.done.items < left l.plan.scripts l.fn.done.items)

abbrev pub decreases-loop-done : goal.decreases-loop-done
decreases-loop-done l = left l.plan.scripts l.done.items
