use Rattle.std.proofs.Common.{◌≡◌, false, length}
use Rattle.trace_fields.specs.Head.{say_lost}
use Rattle.text_bytes.specs.Lines.{words_of}
use Rattle.trace_fields.proofs.head.says_lost.Given as goal

-- the answer is that of the words that are left
abbrev pub invariant-loop-word : goal.invariant-loop-word
invariant-loop-word l = say_lost l.opened (words_of l.text) ≡ say_lost false (words_of l.line)

abbrev pub decreases-loop-word : goal.decreases-loop-word
decreases-loop-word l = length l.text
