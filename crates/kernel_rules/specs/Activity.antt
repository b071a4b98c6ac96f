-- Contending and not: task_non_contending, task_contending.
use Rattle.std.specs.Prelude.{ℕ, ℤ, pos, int_lt, Bool, true, false, not, ◌&&◌, ◌||◌, ◌==◌, if◌then◌else◌, Some, None}
use Rattle.std.specs.Int.{w64, cast_unsigned, int_wrapping_mul}
use Rattle.kernel_rules.specs.declared.activity.Block.{Block}
use Rattle.kernel_rules.specs.declared.activity.Block.TheVariants.{Unreserved, ZeroLagTimer, Past}
use Rattle.kernel_rules.specs.declared.activity.Contention.{Contention}
use Rattle.kernel_rules.specs.declared.activity.Contention.TheVariants.{Unreserved as WasUnreserved, StillRuns, RunsAgain}
use Rattle.kernel_rules.specs.declared.sums.SumsChange.{SumsChange}
use Rattle.kernel_rules.specs.declared.entity.Entity.{Entity}
use Rattle.kernel_rules.specs.declared.flags.TheConstants.{MIGRATED}
use Rattle.kernel_rules.specs.Clock.{less, signed, quotient_of, contains_bits}
use Rattle.kernel_rules.specs.Reservation.{cleared_of}
use Rattle.kernel_rules.specs.Sums.{no_change}

-- the deadline less the time in which the reservation gives the budget, from this clock on
unfoldable pub zero_lag_of : Entity → ℕ → ℤ
zero_lag_of e clock =
    let span = quotient_of (int_wrapping_mul w64 e.budget.runtime (signed e.parameters.dl_period)) e.parameters.dl_runtime in
    signed (less (less e.budget.deadline (cast_unsigned w64 span)) clock)

unfoldable pub blocking_of : Entity → ℕ → Block
blocking_of e clock =
    if e.parameters.dl_runtime == 0 then Unreserved
    else (if not (int_lt (zero_lag_of e clock) (pos 0)) && not e.has_inactive_timer then ZeroLagTimer (zero_lag_of e clock) else Past)

-- of a task that has left the class or has ended, a block ends the reservation
abbrev pub ends_of : Entity → Bool
ends_of e = not e.is_server && (not e.is_in_class || e.is_dead)

abbrev pub blocked_of : Entity → Block → Entity
blocked_of e Unreserved = e
blocked_of e (ZeroLagTimer _) = record e { is_non_contending = true; has_inactive_timer = true }
blocked_of e Past = if ends_of e then cleared_of e else e

abbrev pub blocking_change_of : Entity → Block → SumsChange
blocking_change_of e Unreserved = no_change
blocking_change_of e (ZeroLagTimer _) = no_change
blocking_change_of e Past = record {
  this_bw = if ends_of e && e.is_dead then less 0 e.dl_bw else 0;
  running_bw = if e.is_server || e.is_in_class then less 0 e.dl_bw else 0;
  freed = if ends_of e then Some e.dl_bw else None;
  taken = None;
}

unfoldable pub contending_of : Entity → Contention
contending_of e = if e.parameters.dl_runtime == 0 then WasUnreserved else (if e.is_non_contending then StillRuns else RunsAgain)

abbrev pub contended_of : Entity → Contention → Entity
contended_of e WasUnreserved = e
contended_of e StillRuns = record e { is_non_contending = false; has_inactive_timer = false }
contended_of e RunsAgain = e

abbrev pub running_again_of : Entity → Contention → ℕ
running_again_of e WasUnreserved = 0
running_again_of e StillRuns = 0
running_again_of e RunsAgain = e.dl_bw

abbrev pub arriving_of : Entity → ℕ → ℕ
arriving_of e flags = if contains_bits flags MIGRATED then e.dl_bw else 0

abbrev pub contending_change_of : Entity → ℕ → Contention → SumsChange
contending_change_of e flags WasUnreserved = no_change
contending_change_of e flags StillRuns = record { this_bw = arriving_of e flags; running_bw = 0; freed = None; taken = None }
contending_change_of e flags RunsAgain = record { this_bw = arriving_of e flags; running_bw = e.dl_bw; freed = None; taken = None }
