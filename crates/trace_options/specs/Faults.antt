-- Which status tells why there is no answer.
use Rattle.std.specs.Prelude.{ℕ, Option, Some, None}
use Rattle.trace_options.specs.declared.fault.Fault.{Fault}
use Rattle.trace_options.specs.declared.fault.Fault.TheVariants.{Line, UnknownTask, OutsideDomain, BadNote, Changed, Write, Unreadable, NoMemory, NoText}
use Rattle.trace_options.specs.declared.fault.TheConstants.{STATUS_FILE, STATUS_SYSTEM}

-- where the system failed, and else where the trace is at fault or a file is there already
abbrev pub status_of : Fault → ℕ
status_of Write = STATUS_SYSTEM
status_of Unreadable = STATUS_SYSTEM
status_of NoMemory = STATUS_SYSTEM
status_of NoText = STATUS_SYSTEM
status_of _ = STATUS_FILE

-- the line of the trace that is at fault
abbrev pub line_of : Fault → Option ℕ
line_of (Line line flaw) = Some line
line_of (UnknownTask line pid comm) = Some line
line_of (OutsideDomain line) = Some line
line_of (BadNote line) = Some line
line_of (Changed line) = Some line
line_of fault = None
