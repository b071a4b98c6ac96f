use Rattle.std.proofs.Common.{take}
use Rattle.grub_plan.specs.Contents.{contents}
use Rattle.grub_run.specs.Faults.{HoldAll, names_of}
use Rattle.grub_run.proofs.paths.read_files.Given as goal

abbrev pub invariant-loop-path : goal.invariant-loop-path
invariant-loop-path g l = HoldAll g.O.Fn g.N.Fn l.source (names_of (take l.path-index l.paths)) (contents l.files.items)
