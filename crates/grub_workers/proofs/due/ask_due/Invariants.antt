use Rattle.std.proofs.Common.{List}
use Rattle.std.specs.List.{FoldsTo}
use Rattle.std.specs.FinMap as map
use Rattle.grub_wheel.specs.declared.timer.Timer.{Timer}
use Rattle.grub_plan.specs.Asked.{AsksTimer}
use Rattle.grub_workers.specs.inside.Working.{IsAtWork, IsNotPast}
use Rattle.grub_workers.proofs.due.ask_due.Given as goal

-- the timers that were asked for so far
abbrev pub invariant-loop-timer : goal.invariant-loop-timer
invariant-loop-timer g l =
    IsAtWork l.desk.table.now l.desk.tries l.desk.number l.pass l.progress
    × IsNotPast l.m l.progress
    × ((timers : List Timer) × FoldsTo (AsksTimer l.m) l.fn.progress.entries.items timers l.progress.entries.items)

abbrev pub decreases-loop-timer : goal.decreases-loop-timer
decreases-loop-timer g l = map.len l.progress.wheel.timers
