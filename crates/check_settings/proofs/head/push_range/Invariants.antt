use Rattle.std.proofs.Common.{◌≡◌, ◌-◌, ◌++◌}
use Rattle.check_settings.specs.Heads.{numbers_from}
use Rattle.check_settings.proofs.head.push_range.Given as goal

-- those so far, and those that are left
abbrev pub invariant-loop-cpu : goal.invariant-loop-cpu
invariant-loop-cpu l = l.cpus.items ++ numbers_from l.cpu (l.cpu-end - l.cpu) ≡ l.initial.cpus.items ++ numbers_from l.first (l.cpu-end - l.first)
