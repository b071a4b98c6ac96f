-- The run (sched-deadline.rst 2.1): a charge is the time that the task ran, so on the runqueue's clock the spans that are charged do
-- not overlap, and two charges of one run are without a gap. The first begins between the last line of the runqueue before the
-- switch and the switch, whose own line may be late by 300 us.
use Rattle.std.specs.Prelude.{ℕ, ℤ, ◌+◌, ◌≤◌}
use Rattle.std.specs.Int.{w64, cast_signed}
use Rattle.trace_data.specs.declared.probe.Ran.{Ran}
use Rattle.trace_data.specs.declared.probe.Ran.TheVariants.{Span, Clocks}
use Rattle.law_findings.specs.Expiry.{less}

abbrev pub IsApart : ℕ → ℕ → Type 0
IsApart ends begins = ends ≤ begins

pub record BeginsAtSwitch (before begins switch : ℕ) : Type 0 where
  pub behind : before ≤ begins
  pub by_then : begins ≤ switch + 300000

-- how long a task ran by a charge
abbrev pub nanos_of : Ran → ℤ
nanos_of (Span delta max_bw) = delta
nanos_of (Clocks now start entity max_bw) = cast_signed w64 (less now start)
