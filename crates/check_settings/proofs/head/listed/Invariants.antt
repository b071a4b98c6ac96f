use Rattle.std.proofs.Common.{◌≡◌, ◌++◌, drop}
use Rattle.check_settings.specs.Heads.{listed_in}
use Rattle.check_settings.proofs.head.listed.Given as goal

-- the CPUs of the ranges so far, and of those that are left
abbrev pub invariant-loop-range : goal.invariant-loop-range
invariant-loop-range l = l.cpus.items ++ listed_in (drop l.range-index l.ranges) ≡ listed_in l.ranges
