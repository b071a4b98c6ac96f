use Rattle.std.proofs.Common.{◌≡◌, drop}
use Rattle.timer_play.specs.Playing.{played}
use Rattle.timer_play.specs.States.{state_of}
use Rattle.timer_play.proofs.playing.play_lines.Given as goal

-- what is left to play gives what all gives
abbrev pub invariant-loop-kept : goal.invariant-loop-kept
invariant-loop-kept l =
    played l.lines.tasks.items (drop l.come l.lines.told.items) (drop l.kept-index l.lines.kept.items) (state_of l.machine)
    ≡ played l.lines.tasks.items l.lines.told.items l.lines.kept.items (state_of l.initial.machine)
