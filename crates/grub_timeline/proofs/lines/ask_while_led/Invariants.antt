use Rattle.std.proofs.Common.{◌≡◌, ◌<◌, vec_capacity}
use Rattle.grub_timeline.specs.Order.{left}
use Rattle.grub_timeline.specs.inside.Merge.{IsAhead, IsMidway}
use Rattle.grub_timeline.proofs.lines.ask_while_led.Given as goal

-- some lines of the file that leads were asked
abbrev pub invariant-loop-done : goal.invariant-loop-done
invariant-loop-done l =
    IsMidway l.plan l.player l.done
    × IsAhead l.plan.scripts l.done l.lead
    × (l.player.start.value.items ≡ l.fn.player.start.value.items)
    × (vec_capacity l.player.chunk ≡ vec_capacity l.fn.player.chunk)
    × (left l.plan.scripts l.done < left l.plan.scripts l.fn.done)

abbrev pub decreases-loop-done : goal.decreases-loop-done
decreases-loop-done l = left l.plan.scripts l.done
