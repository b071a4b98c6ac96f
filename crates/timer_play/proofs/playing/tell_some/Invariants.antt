use Rattle.std.proofs.Common.{◌≡◌, drop}
use Rattle.timer_play.specs.Playing.{left_after, told_until}
use Rattle.timer_play.specs.States.{state_of}
use Rattle.timer_play.proofs.playing.tell_some.Given as goal

-- what is left to tell gives what all gives
abbrev pub invariant-loop-i : goal.invariant-loop-i
invariant-loop-i l = record {
  state : told_until l.at (drop l.i l.told) (state_of l.machine) ≡ told_until l.at (drop l.come l.told) (state_of l.initial.machine);
  rest : left_after l.at (drop l.i l.told) ≡ left_after l.at (drop l.come l.told);
}
