-- After how long a run a budget is used up, by the sums of now.
use Rattle.std.specs.Prelude.{ℕ, ◌≤◌, ◌==◌, if◌then◌else◌}
use Rattle.grub_book.specs.Bandwidth.{Capacity}
use Rattle.grub_book.specs.Server.{charge_of}
use Rattle.grub_book.specs.declared.event.Reading.{Reading}
use Rattle.library_book.specs.Numbers.{or_else, charge_fault}
use Rattle.library_book.specs.declared.codes.TheConstants.{DONE, TOO_SMALL}

-- the least run of a task of bandwidth u whose charge is at least the budget
pub record IsExhaustion (budget u : ℕ) (c : Capacity) (now : Reading) (run : ℕ) : Type 0 where
  pub enough : budget ≤ charge_of run u c now.running now.this
  pub least : (k : ℕ) → budget ≤ charge_of k u c now.running now.this → run ≤ k

-- 0 where there is such a run for any budget, else the first of 4, 5, 62 and 3 that holds: a bandwidth of 0 may be charged nothing
abbrev pub exhaustion_fault : ℕ → Capacity → Reading → ℕ
exhaustion_fault u c now = or_else (charge_fault c now) (if u == 0 then TOO_SMALL else DONE)
