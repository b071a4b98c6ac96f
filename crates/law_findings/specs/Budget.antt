-- Budget (Abeni and Buttazzo 1998): a task that runs, or wakes and is not throttled, has a budget above 0, and at most its runtime.
use Rattle.std.specs.Prelude.{ℕ, ℤ, pos, ◌<ℤ◌, ◌≤ℤ◌}

abbrev pub HasBudget : ℤ → Type 0
HasBudget budget = pos 0 <ℤ budget

abbrev pub IsWithin : ℤ → ℕ → Type 0
IsWithin budget dl_runtime = budget ≤ℤ pos dl_runtime
