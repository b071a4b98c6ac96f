-- The pick (Liu and Layland 1973; Abeni and Buttazzo 1998; sched-deadline.rst 2.1): no task of the runqueue that can run has an
-- earlier deadline than the one that is put on.
use Rattle.std.specs.Prelude.{ℕ, Bool, IsTrue, ◌⊎◌, ◌≤◌, ◌<◌, not, ◌||◌, nat_le}
use Rattle.law_findings.specs.declared.pick.Queued.{Queued}
use Rattle.law_findings.specs.declared.pick.LowerRun.{LowerRun}

abbrev pub IsPickRight : Queued → Queued → Type 0
IsPickRight picked other = IsTrue other.is_throttled ⊎ (picked.deadline ≤ other.deadline)

-- Work is conserved for the class (sched-deadline.rst 2.1): while a task of it can run, a lower class runs on its processor for at
-- most 8 ticks of that processor, and less than a second. A fair server may take its turn of 50 ms first.
abbrev pub is_tick_counted : Bool → ℕ → Bool
is_tick_counted has_servers nanos = not has_servers || nat_le 50000000 nanos

pub record IsRunShort (run : LowerRun) : Type 0 where
  pub ticks : run.ticks ≤ 8
  pub span : run.nanos < 1000000000
