use Rattle.std.proofs.Common.{ℕ, List, take}
use Rattle.grub_run.specs.Faults.{HoldAll, names_of}
use Rattle.grub_run.proofs.paths.read_each.Given as goal

abbrev pub invariant-loop-path : goal.invariant-loop-path
invariant-loop-path g l = (files : List (List ℕ)) × HoldAll g.O.Fn g.N.Fn l.source (names_of (take l.path-index l.paths)) files
