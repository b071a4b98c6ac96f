-- What is printed where a record is sized, and the fault of a task that is asked for.
use Rattle.std.specs.Prelude.{◌≡◌, ℕ, List, Option}
use Rattle.std.specs.Io.KnownBytes.{Appends}
use Rattle.trace_options.specs.declared.fault.Fault.{Fault}
use Rattle.trace_options.specs.declared.fault.Fault.TheVariants.{NoSuchTask, NoJobs}

-- a text was printed whole, and nothing else
abbrev pub PrintsWhole : Option (List ℕ) → Option (List ℕ) → Type 0
PrintsWhole old new = (text : List ℕ) × Appends old new text

-- that the task of this name is not in the trace, or has no job
abbrev pub IsOfTask : List ℕ → Fault → Type 0
IsOfTask name (NoSuchTask n) = n.now ≡ name
IsOfTask name (NoJobs n) = n.now ≡ name
IsOfTask name fault = ⊥
