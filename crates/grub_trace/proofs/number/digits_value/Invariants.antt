use Rattle.std.proofs.Common.{Some, take}
use Rattle.grub_trace.specs.inside.Reading.{IsDigitsOf}
use Rattle.grub_trace.proofs.number.digits_value.Given as goal

abbrev pub invariant-loop-c : goal.invariant-loop-c
invariant-loop-c l = IsDigitsOf (Some l.value) (take l.c-index l.word)
