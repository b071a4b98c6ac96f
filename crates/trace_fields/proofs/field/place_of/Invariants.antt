use Rattle.std.proofs.Common.{◌≡◌, ◌+◌, length}
use Rattle.trace_fields.specs.Words.{place_from}
use Rattle.trace_fields.proofs.field.place_of.Given as goal

-- the answer is that of the text that is left
abbrev pub invariant-loop-space : goal.invariant-loop-space
invariant-loop-space l = (place_from l.from l.key l.rest ≡ place_from 0 l.key l.text) × (l.from + length l.rest ≡ length l.text)

abbrev pub decreases-loop-space : goal.decreases-loop-space
decreases-loop-space l = length l.rest
