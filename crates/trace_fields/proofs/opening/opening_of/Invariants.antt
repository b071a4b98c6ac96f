use Rattle.std.proofs.Common.{◌≡◌, ◌+◌, length}
use Rattle.trace_fields.specs.Opening.{opening_from, opening_of}
use Rattle.trace_fields.specs.inside.OpeningFits.{StartsWithin}
use Rattle.text_bytes.specs.Lines.{words_of}
use Rattle.trace_fields.proofs.opening.opening_of.Given as goal

-- the answer is that of the words that are left
abbrev pub invariant-loop-at : goal.invariant-loop-at
invariant-loop-at l = (opening_from l.start l.cpu (words_of l.text) ≡ opening_of l.line) × (l.start + length l.text ≡ length l.line) × StartsWithin l.cpu (length l.line)

abbrev pub decreases-loop-at : goal.decreases-loop-at
decreases-loop-at l = length l.text
