use Rattle.std.proofs.Common.{◌≡◌, min, take}
use Rattle.text_bytes.specs.Digits.{value}
use Rattle.trace_fields.proofs.decimal.capped_value.Given as goal

abbrev pub invariant-loop-c : goal.invariant-loop-c
invariant-loop-c l = l.value ≡ min (value (take l.c-index l.word)) 18446744073709551615
