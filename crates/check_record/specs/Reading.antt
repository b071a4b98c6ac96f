-- A trace is read up to its end or to the line at which it halts.
use Rattle.std.specs.Prelude.{◌≡◌, ℕ, Bool, List, Option, Some, None, Ok, Err}
use Rattle.trace_options.specs.declared.options.CheckOptions.{CheckOptions}
use Rattle.std.specs.declared.result.Result.{Result}
use Rattle.trace_lines.specs.declared.reader.Halt.{Halt}
use Rattle.trace_lines.specs.Reading.{halt_at_end, reading}
use Rattle.trace_data.specs.declared.line.Flaw.{Flaw}
use Rattle.check_record.specs.Shown.{Shown, nothing_shown, with_line}
use Rattle.trace_options.specs.declared.fault.Fault.{Fault}
use Rattle.trace_options.specs.declared.fault.Fault.TheVariants as fault

-- what a line at which a text halts has to be told as
abbrev pub halted_by : ℕ → Option Flaw → Result (Unit {0}) Fault
halted_by line (Some flaw) = Err (fault.Line line flaw)
halted_by line None = Ok tt

abbrev pub ended_by : Option Halt → Result (Unit {0}) Fault
ended_by (Some halt) = halted_by halt.line halt.flaw
ended_by None = Ok tt

-- behind what was shown, no line of a text has a flaw, and none is cut off at its end
abbrev pub IsWholeFrom : Shown → List ℕ → Type 0
IsWholeFrom start text = let p = reading with_line text start in ended_by (halt_at_end p.halt p.line p.rest p.clock) ≡ Ok tt

abbrev pub IsWhole : CheckOptions → Bool → List ℕ → Type 0
IsWhole o beside text = IsWholeFrom (nothing_shown o beside) text

-- a text of which no line is left out shows this
abbrev pub HasShownFrom : Shown → Shown → List ℕ → Type 0
HasShownFrom start s text = IsWholeFrom start text × ((reading with_line text start).seen ≡ s)

abbrev pub HasShown : CheckOptions → Bool → Shown → List ℕ → Type 0
HasShown o beside s text = HasShownFrom (nothing_shown o beside) s text
