-- The jobs of a task: each begins at a wake of a task that is in none, and ends at the block after it.
use Rattle.std.specs.Prelude.{ℕ, ◌+◌, ◌/◌, min, max, Bool, true, false}
use Rattle.std.specs.Int.{div_ceil}
use Rattle.size_jobs.specs.declared.watch.Seen.{Seen}
use Rattle.size_jobs.specs.declared.watch.Phase.{Phase}
use Rattle.size_jobs.specs.declared.watch.Phase.TheVariants.{Unseen, UnderWay, Busy, Asleep}
use Rattle.trace_data.specs.declared.fixed.Stop.{Stop}
use Rattle.trace_data.specs.declared.fixed.Stop.TheVariants.{Ready, Blocks, Ends}
use Rattle.trace_lines.specs.declared.scheduled.Class.{Class}
use Rattle.size_jobs.specs.declared.watch.LeftOut.TheVariants.{New, Last, NoWake}
use Rattle.size_jobs.specs.declared.watch.Ended.{Ended}
use Rattle.size_jobs.specs.declared.watch.Ended.TheVariants as ended

abbrev pub woken_of : Phase → ℕ → ℕ → Bool → Phase
woken_of Unseen line at is_new = Busy line at 0 is_new
woken_of Asleep line at is_new = Busy line at 0 is_new
woken_of UnderWay line at is_new = UnderWay
woken_of (Busy l w n b) line at is_new = Busy l w n b

abbrev pub ran_of : Phase → ℕ → Phase
ran_of Unseen nanos = UnderWay
ran_of (Busy line wake before is_new) nanos = Busy line wake (min (before + nanos) 18446744073709551615) is_new
ran_of UnderWay nanos = UnderWay
ran_of Asleep nanos = Asleep

-- In whole microseconds: the release rounded down, the end and the work rounded up.
abbrev pub seen_of : ℕ → ℕ → ℕ → ℕ → Class → Seen
seen_of line wake nanos at class =
    record { line = line; release = wake / 1000; end = div_ceil at 1000; work = max (div_ceil nanos 1000) 1; class = class }

-- a task of this class stops at a moment
abbrev pub stopped_of : Phase → ℕ → Stop → Class → Phase × Ended
stopped_of Unseen at Ready class = (UnderWay, ended.Nothing)
stopped_of phase at Ready class = (phase, ended.Nothing)
stopped_of (Busy line wake nanos true) at stop class = (Asleep, ended.LeftOut New)
stopped_of (Busy line wake nanos false) at Ends class = (Asleep, ended.LeftOut Last)
stopped_of (Busy line wake nanos false) at Blocks class = (Asleep, ended.Job (seen_of line wake nanos at class))
stopped_of phase at stop class = (Asleep, ended.LeftOut NoWake)
