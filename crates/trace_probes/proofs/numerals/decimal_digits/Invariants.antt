use Rattle.std.proofs.Common.{◌≡◌, drop}
use Rattle.trace_probes.specs.Numerals.{digits_from}
use Rattle.trace_probes.proofs.numerals.decimal_digits.Given as goal

-- the answer is that of the digits that are left
abbrev pub invariant-loop-byte : goal.invariant-loop-byte
invariant-loop-byte l = digits_from 10 l.value (drop l.byte-index l.text) ≡ digits_from 10 0 l.text
