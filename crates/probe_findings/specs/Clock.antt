-- The law of clocks: the clock of a runqueue (rq->clock) is brought up to date before a task wakes there (update_rq_clock).
use Rattle.std.specs.Prelude.{ℕ, ℤ, pos, int_lt, ◌-◌, ◌/◌, Bool, nat_lt, if◌then◌else◌, Option, Some, None}
use Rattle.std.specs.Int.{w64, int_wrapping_add}
use Rattle.kernel_rules.specs.Clock.{less, signed}
use Rattle.probe_findings.specs.declared.clock_law.LeastLag.{LeastLag}

-- how far a CPU's clock is behind the moment of a line
abbrev pub lag_of : ℕ → ℕ → ℤ
lag_of at clock = signed (less at clock)

abbrev pub least_of : ℤ → ℤ → ℤ
least_of a b = if int_lt a b then a else b

-- the clock of moments may be steered by up to 1 in 1024 against the other: the least lag grows by as much
abbrev pub least_after : Option LeastLag → ℕ → ℤ → LeastLag
least_after None at lag = record { nanos = lag; at = at }
least_after (Some least) at lag = record { nanos = least_of lag (int_wrapping_add w64 least.nanos (pos ((at - least.at) / 1024))); at = at }

-- a wake is late where its clock is more than 100 microseconds behind the least lag of its CPU
abbrev pub is_late : ℤ → Bool
is_late behind = int_lt (pos 100000) behind

-- of so many wakes so many late ones break the law: more than a quarter, two aside
abbrev pub is_broken : ℕ → ℕ → Bool
is_broken late wakes = nat_lt (wakes / 4) (late - 2)
