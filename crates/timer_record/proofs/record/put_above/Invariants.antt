use Rattle.std.proofs.Common.{◌≡◌, ◌++◌, drop, map, take}
use Rattle.timer_record.specs.Records.{above_in}
use Rattle.timer_record.proofs.record.put_above.Given as goal

-- those so far, and what is to be made of the others
abbrev pub invariant-loop-i : goal.invariant-loop-i
invariant-loop-i l = take l.i l.told ++ map (above_in l.tasks) (drop l.i l.told) ≡ map (above_in l.tasks) l.initial.told
