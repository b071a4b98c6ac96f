-- What each fault prints: its number and its name.
use Rattle.std.specs.Prelude.{ℕ, List, codes, ◌++◌, decimal}
use Rattle.grub_trace.specs.declared.fault.Kind.{Kind}
use Rattle.grub_trace.specs.declared.fault.Kind.TheVariants.{BadHeader, BadLine, BadNumber, OutOfRange, DuplicateTask, UnknownTask, MomentGoesBack, MissingQueue, CutShort}
use Rattle.grub_trace.specs.declared.fault.TraceFault.{TraceFault}
use Rattle.grub_trace.specs.declared.fault.TraceFault.TheVariants.{At, NoMemory}

abbrev pub kind_text : Kind → List ℕ
kind_text BadHeader = codes "28 BadHeader"
kind_text BadLine = codes "29 BadLine"
kind_text BadNumber = codes "30 BadNumber"
kind_text OutOfRange = codes "31 OutOfRange"
kind_text DuplicateTask = codes "32 DuplicateTask"
kind_text UnknownTask = codes "33 UnknownTask"
kind_text MomentGoesBack = codes "34 MomentGoesBack"
kind_text MissingQueue = codes "35 MissingQueue"
kind_text CutShort = codes "36 CutShort"

-- the file counts from 0, and the line from 1
abbrev pub trace_fault_text : TraceFault → List ℕ
trace_fault_text (At kind file line) = kind_text kind ++ codes " at " ++ decimal file ++ codes ":" ++ decimal line
trace_fault_text NoMemory = codes "37 NoMemory"
