-- The class in which a job ran.
use Rattle.std.specs.Prelude.{Bool, true, false}
use Rattle.size_jobs.specs.declared.watch.Seen.{Seen}
use Rattle.trace_lines.specs.declared.scheduled.Class.{Class}
use Rattle.trace_lines.specs.declared.scheduled.Class.TheVariants.{Deadline, RealTime, Fair}

abbrev pub same_class : Class → Class → Bool
same_class Deadline Deadline = true
same_class RealTime RealTime = true
same_class Fair Fair = true
same_class one other = false

abbrev pub runs_in : Class → Seen → Bool
runs_in class job = same_class job.class class
