-- What the code holds, in the words of the definitions.
use Rattle.std.specs.Prelude.{Bool}
use Rattle.trace_lines.specs.Reading.{After, Progress}
use Rattle.trace_lines.specs.declared.reader.RecordReader.{RecordReader}

-- how far a text was read by a reader that stands so, and whose lines came to this
abbrev pub progress : {S : Type 0} → RecordReader → S → Progress S
progress reader seen = record { halt = reader.halt; line = reader.line; rest = reader.carry.items; clock = reader.clock; seen = seen }

abbrev pub after_of : {S : Type 0} → Bool → S → After S
after_of more seen = record { more = more; seen = seen }
