use Rattle.std.proofs.Common.{◌≡◌, length}
use Rattle.text_bytes.specs.Lines.{word_of}
use Rattle.trace_probes.specs.Numerals.{digits_from}
use Rattle.trace_probes.specs.inside.Texts.{behind_word}
use Rattle.trace_probes.proofs.front.front_digits.Given as goal

-- what is left spells the same number behind these digits, and the same words stand behind it
abbrev pub invariant-loop-rest : goal.invariant-loop-rest
invariant-loop-rest l = (digits_from 10 0 (word_of l.text) ≡ digits_from 10 l.value (word_of l.rest)) × (behind_word l.text ≡ behind_word l.rest)

abbrev pub decreases-loop-rest : goal.decreases-loop-rest
decreases-loop-rest l = length l.rest
