-- The period of a task: that which is given, or else that of its wakes, where these are regular. Numbers are microseconds.
use Rattle.std.specs.Prelude.{◌≡◌, ℕ, ◌+◌, ◌-◌, ◌*◌, ◌/◌, min, Bool, ◌&&◌, nat_le, nat_lt, zero, suc, List, [], ◌∷◌, length, count_by, slice_get, Option, Some, None, unwrap_or, option_and_then, IsSorted, IsPermutation, if◌then◌else◌}
use Rattle.std.specs.Option.{option_or}
use Rattle.std.specs.Ordering.{nat_cmp}
use Rattle.size_jobs.specs.declared.watch.Seen.{Seen}
use Rattle.size_report.specs.Options.{Asked, is_period}

-- the times between the releases of each job and the next
abbrev pub between_after : ℕ → List Seen → List ℕ
between_after last [] = []
between_after last (one ∷ seen) = (one.release - last) ∷ between_after one.release seen

abbrev pub between_of : List Seen → List ℕ
between_of [] = []
between_of (one ∷ seen) = between_after one.release seen

-- the same numbers, from the least to the greatest
pub record AreSorted (numbers sorted : List ℕ) : Type 0 where
  pub ascending : IsSorted nat_cmp sorted
  pub same : IsPermutation numbers sorted

-- of sorted numbers the one that so many of a hundred are before
abbrev pub at : ℕ → List ℕ → ℕ
at percent sorted =
    unwrap_or (slice_get sorted (min (min (length sorted * percent) 18446744073709551615 / 100) (length sorted - 1))) 0

-- a number is more than a tenth away
abbrev pub is_far : ℕ → ℕ → Bool
is_far median n = nat_lt (median / 10) ((n - median) + (median - n))

-- there are at least 8 intervals, and at most one of ten is far from the median
abbrev pub is_regular : List ℕ → Bool
is_regular sorted = nat_le 8 (length sorted) && nat_le (count_by (is_far (at 50 sorted)) sorted) (length sorted / 10)

-- rounded down to three digits, where it has at most so many more
abbrev pub rounded_by : ℕ → ℕ → ℕ
rounded_by zero n = n
rounded_by (suc more) n = if nat_lt n 1000 then n else rounded_by more (n / 10) * 10

abbrev pub rounded : ℕ → ℕ
rounded n = rounded_by 17 n

unfoldable pub regular : List ℕ → Option ℕ
regular sorted = if is_regular sorted then Some (rounded (at 50 sorted)) else None

-- one that the kernel admits
abbrev pub admitted_period : ℕ → Option ℕ
admitted_period period = if is_period period then Some period else None

abbrev pub period_in : Asked → List ℕ → Option ℕ
period_in asked sorted = option_or asked.period (option_and_then admitted_period (regular sorted))

-- the period of a task with these jobs, where it has one
pub record HasPeriod (asked : Asked) (seen : List Seen) (period : Option ℕ) : Type 0 where
  pub sorted : List ℕ
  pub are : AreSorted (between_of seen) sorted
  pub is : period ≡ period_in asked sorted
