-- How long work takes at most that a server of a runtime in each period does, in whole numbers (the supply of a periodic resource: Shin and Lee 2003; here from a renewal of the server on).
use Rattle.std.specs.Prelude.{ℕ, ◌+◌, ◌-◌, ◌*◌}
use Rattle.std.specs.Int.{div_ceil}

-- how many budgets of the runtime it takes
unfoldable pub budgets_of : ℕ → ℕ → ℕ
budgets_of work runtime = div_ceil work runtime

-- From a renewal of the server on, where each budget is had by its deadline: the last of the work lies in its last budget.
unfoldable pub span : ℕ → ℕ → ℕ → ℕ
span runtime period work = budgets_of work runtime * (period - runtime) + work
