use Rattle.std.proofs.Common.{◌≡◌, ◌++◌, drop, map, take}
use Rattle.timer_verdict.specs.Speed.{left_out_of}
use Rattle.timer_verdict.proofs.speed.leave_out.Given as goal

-- those so far, and what is to be made of the others
abbrev pub invariant-loop-i : goal.invariant-loop-i
invariant-loop-i l = take l.i l.observations ++ map (left_out_of l.slow) (drop l.i l.observations) ≡ map (left_out_of l.slow) l.initial.observations
