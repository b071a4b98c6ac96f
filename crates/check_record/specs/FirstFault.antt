-- What is a fault of a record, and of two faults the one that is told.
use Rattle.std.specs.Prelude.{ℕ, ◌-◌, ◌^◌, Bool, true, false, ◌||◌, ◌==◌, nat_lt, if◌then◌else◌, Option, Some, None, Ok, Err}
use Rattle.std.specs.declared.result.Result.{Result}
use Rattle.trace_options.specs.Faults.{line_of}
use Rattle.trace_options.specs.declared.fault.Fault.{Fault}
use Rattle.trace_options.specs.declared.fault.Fault.TheVariants as fault
use Rattle.trace_data.specs.declared.fixed.Fixed.{Fixed}
use Rattle.trace_data.specs.declared.fixed.Fixed.TheVariants as fixed
use Rattle.trace_data.specs.declared.line.RecordLine.{RecordLine}
use Rattle.trace_data.specs.declared.line.RecordLine.TheVariants as line
use Rattle.trace_data.specs.declared.note.TraceNote.TheVariants as note
use Rattle.trace_file.specs.declared.reading.ReadFault.{ReadFault}
use Rattle.trace_file.specs.declared.reading.ReadFault.TheVariants as read
use Rattle.trace_lines.specs.declared.word.TheConstants.{CPUS}

-- there are two lines, of which the first one comes before the other
abbrev pub is_before_by : Option ℕ → Option ℕ → Bool
is_before_by (Some line) (Some other) = nat_lt line other
is_before_by (Some line) None = false
is_before_by None other = false

-- of a fault of a line and of a task that is not known, the one whose line comes first
abbrev pub earlier_of : Fault → Option Fault → Fault
earlier_of fault None = fault
earlier_of fault (Some unknown) = if is_before_by (line_of unknown) (line_of fault) then unknown else fault

-- a line that was taken ends the reading where something was wrong with it
abbrev pub raised_by : Option Fault → Result (Unit {0}) Fault
raised_by (Some wrong) = Err wrong
raised_by None = Ok tt

-- the moment of a line, or that of its note, is greater than each number of nanoseconds
abbrev pub is_last_moment : ℕ → Bool
is_last_moment at = at == 2 ^ 64 - 1

abbrev pub is_too_late : RecordLine → Bool
is_too_late (line.Event at grain cpu pid said) = is_last_moment at
is_too_late (line.Note (note.Task pid (Some at) by cpu policy)) = is_last_moment at
is_too_late other = false

-- the first head of a trace that tells a number of processors tells one that a machine may have
abbrev pub fault_headed : Option ℕ → Option ℕ → ℕ → Option Fault → Option Fault
fault_headed (Some told) now line wrong = wrong
fault_headed None (Some count) line wrong = if count == 0 || nat_lt CPUS count then Some (fault.OutsideDomain line) else wrong
fault_headed None None line wrong = wrong

-- a deadline task wakes on a CPU of the root domain
abbrev pub fault_woken : (ℕ → Bool) → Fixed → ℕ → Option Fault → Option Fault
fault_woken is_of_domain (fixed.Woken pid true cpu) line wrong = if is_of_domain cpu then wrong else Some (fault.OutsideDomain line)
fault_woken is_of_domain other line wrong = wrong

-- why a trace was not read
abbrev pub fault_read : ReadFault Fault → Fault
fault_read read.Unreadable = fault.Unreadable
fault_read read.NoMemory = fault.NoMemory
fault_read (read.Lines wrong) = wrong
