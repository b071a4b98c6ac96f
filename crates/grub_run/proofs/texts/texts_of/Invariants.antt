use Rattle.std.proofs.Common.{◌≡◌, take}
use Rattle.grub_run.specs.Written.{texts_from}
use Rattle.grub_run.proofs.texts.texts_of.Given as goal

abbrev pub invariant-loop-r : goal.invariant-loop-r
invariant-loop-r l = l.text.items ≡ texts_from l.plan.names 0 (take l.r l.reports) (take l.r l.closing)
