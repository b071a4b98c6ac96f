use Rattle.std.proofs.Common.{◌≡◌, drop}
use Rattle.text_bytes.specs.Lines.{words_of}
use Rattle.trace_probes.specs.Fields.{values_with}
use Rattle.trace_probes.specs.inside.Texts.{words_left}
use Rattle.trace_probes.proofs.values.Values.take.Given as goal

-- the answer is that of the fields that are left
abbrev pub invariant-loop-field : goal.invariant-loop-field
invariant-loop-field l = values_with (drop l.field-index l.fields) l.self.items (words_left l.left) ≡ values_with l.fields l.initial.self.items (words_of l.text)
