use Rattle.std.proofs.Common.{◌≡◌, ◌+◌, ◌≤◌, List}
use Rattle.std.specs.Prelude.{vec_len, vec_capacity}
use Rattle.std.specs.List.{FoldsTo}
use Rattle.std.specs.FinMap as map
use Rattle.grub_wheel.specs.declared.timer.Timer.{Timer}
use Rattle.grub_plan.specs.Asked.{AsksTimer}
use Rattle.grub_timeline.specs.TimeLines.{entries_of}
use Rattle.grub_timeline.specs.inside.Playing.{GoesOnAt, IsNotPast, IsPlaying}
use Rattle.grub_timeline.proofs.due.ask_due.Given as goal

-- the timers that were asked for so far
abbrev pub invariant-loop-timer : goal.invariant-loop-timer
invariant-loop-timer l =
    IsPlaying l.player
    × IsNotPast l.m l.player
    × (l.player.book.setup ≡ l.fn.player.book.setup)
    × ((timers : List Timer) × FoldsTo (AsksTimer l.m) (entries_of l.fn.player.told.items) timers (entries_of l.player.told.items))
    × GoesOnAt l.fn.player.told.items l.player.told.items
    × (l.player.start.value.items ≡ l.fn.player.start.value.items)
    × (vec_len l.player.chunk + map.len l.player.wheel.timers ≤ vec_len l.fn.player.chunk + map.len l.fn.player.wheel.timers)
    × (vec_capacity l.player.chunk ≡ vec_capacity l.fn.player.chunk)

abbrev pub decreases-loop-timer : goal.decreases-loop-timer
decreases-loop-timer l = map.len l.player.wheel.timers
