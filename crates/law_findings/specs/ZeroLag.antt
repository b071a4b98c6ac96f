-- The 0-lag time (Lipari and Baruah 2000; sched-deadline.rst 2.2): deadline - budget * period / runtime, in exact numbers. A task
-- that blocks before it stays active until then, by a timer; one that blocks behind it is inactive at once, without a timer.
use Rattle.std.specs.Prelude.{ℤ, pos, neg_ℤ, ◌^◌, ◌⊎◌, ◌-ℤ◌, ◌*ℤ◌, ◌<ℤ◌, ◌≤ℤ◌, int_div}
use Rattle.law_findings.specs.declared.zero_lag.Blocked.{Blocked}

-- for how long the budget lasts at the reserved rate
abbrev pub work_of : Blocked → ℤ
work_of b = int_div (b.budget *ℤ pos b.dl_period) (pos b.dl_runtime)

abbrev pub ahead_of : Blocked → ℤ
ahead_of b = pos b.deadline -ℤ pos b.clock

-- the span to the 0-lag time
abbrev pub span_of : Blocked → ℤ
span_of b = ahead_of b -ℤ work_of b

-- the 0-lag time is past
abbrev pub IsPast : Blocked → Type 0
IsPast b = ahead_of b <ℤ work_of b

-- how far the deadline is ahead of a moment so far behind the clock
abbrev pub left_of : Blocked → ℤ → ℤ
left_of b span = ahead_of b -ℤ span

-- a timer for this span is not behind the 0-lag time
pub record IsNotLate (b : Blocked) (span : ℤ) : Type 0 where
  pub by_then : work_of b ≤ℤ left_of b span

-- or not before it
pub record IsNotSoon (b : Blocked) (span : ℤ) : Type 0 where
  pub from_then : left_of b span ≤ℤ work_of b

-- a timer is armed for a span between `from` and `to`; where no line shows the budget after the last charge, it lies between two
pub record IsArmedFor (least most : Blocked) (from to : ℤ) : Type 0 where
  pub not_soon : IsNotSoon most to
  pub not_late : IsNotLate least from

-- the product leaves the kernel's s64
abbrev pub IsWide : Blocked → Type 0
IsWide b = ((b.budget *ℤ pos b.dl_period) <ℤ neg_ℤ (pos (2 ^ 63))) ⊎ (pos (2 ^ 63) ≤ℤ (b.budget *ℤ pos b.dl_period))
