-- How many values of each kind were compared.
use Rattle.std.specs.Prelude.{ℕ, ◌+◌, ◌-◌, ◌%◌, ◌^◌, ◌==◌, min, Bool, true, false}
use Rattle.probe_findings.specs.declared.counts.Comparisons.{Comparisons}
use Rattle.probe_findings.specs.declared.counts.KindCounts.{KindCounts}
use Rattle.probe_findings.specs.declared.words.QuantityKind.{QuantityKind}
use Rattle.probe_findings.specs.declared.words.QuantityKind.TheVariants.{Budget, Deadline, Flags, Parameters, ThisBw, RunningBw, ExtraBw, TotalBw, ZeroLag, ZeroLagMoment, Timers, Capacities, Addresses, Choices, Laws}

abbrev pub no_tally : Comparisons
no_tally = record { equal = 0; differ = 0 }

abbrev pub no_counts : KindCounts
no_counts = record {
  budget = no_tally;
  deadline = no_tally;
  flags = no_tally;
  parameters = no_tally;
  this_bw = no_tally;
  running_bw = no_tally;
  extra_bw = no_tally;
  total_bw = no_tally;
  zero_lag = no_tally;
  zero_lag_moment = no_tally;
  timers = no_tally;
  capacities = no_tally;
  addresses = no_tally;
  choices = no_tally;
  laws = no_tally;
}

-- one comparison more; those that differ never come to 0 again
abbrev pub tallied : Comparisons → Bool → Comparisons
tallied t true = record t { equal = (t.equal + 1) % 2 ^ 64 }
tallied t false = record t { differ = min (t.differ + 1) (2 ^ 64 - 1) }

abbrev pub tally_of : KindCounts → QuantityKind → Comparisons
tally_of c Budget = c.budget
tally_of c Deadline = c.deadline
tally_of c Flags = c.flags
tally_of c Parameters = c.parameters
tally_of c ThisBw = c.this_bw
tally_of c RunningBw = c.running_bw
tally_of c ExtraBw = c.extra_bw
tally_of c TotalBw = c.total_bw
tally_of c ZeroLag = c.zero_lag
tally_of c ZeroLagMoment = c.zero_lag_moment
tally_of c Timers = c.timers
tally_of c Capacities = c.capacities
tally_of c Addresses = c.addresses
tally_of c Choices = c.choices
tally_of c Laws = c.laws

-- one comparison more of this kind, and of no other
abbrev pub counted_of : KindCounts → QuantityKind → Bool → KindCounts
counted_of c Budget b = record c { budget = tallied c.budget b }
counted_of c Deadline b = record c { deadline = tallied c.deadline b }
counted_of c Flags b = record c { flags = tallied c.flags b }
counted_of c Parameters b = record c { parameters = tallied c.parameters b }
counted_of c ThisBw b = record c { this_bw = tallied c.this_bw b }
counted_of c RunningBw b = record c { running_bw = tallied c.running_bw b }
counted_of c ExtraBw b = record c { extra_bw = tallied c.extra_bw b }
counted_of c TotalBw b = record c { total_bw = tallied c.total_bw b }
counted_of c ZeroLag b = record c { zero_lag = tallied c.zero_lag b }
counted_of c ZeroLagMoment b = record c { zero_lag_moment = tallied c.zero_lag_moment b }
counted_of c Timers b = record c { timers = tallied c.timers b }
counted_of c Capacities b = record c { capacities = tallied c.capacities b }
counted_of c Addresses b = record c { addresses = tallied c.addresses b }
counted_of c Choices b = record c { choices = tallied c.choices b }
counted_of c Laws b = record c { laws = tallied c.laws b }

-- how many comparisons of all kinds differ
abbrev pub differing : KindCounts → ℕ
differing c =
    c.budget.differ + c.deadline.differ + c.flags.differ + c.parameters.differ + c.this_bw.differ + c.running_bw.differ
    + c.extra_bw.differ + c.total_bw.differ + c.zero_lag.differ + c.zero_lag_moment.differ + c.timers.differ + c.capacities.differ
    + c.addresses.differ + c.choices.differ + c.laws.differ

abbrev pub none_differs : KindCounts → Bool
none_differs c = differing c == 0
