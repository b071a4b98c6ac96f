-- What a function does to the sums of a runqueue once it has its lock: migrate_task_rq_dl, inactive_task_timer.
use Rattle.std.specs.Prelude.{ℕ, false, if◌then◌else◌, Some, None}
use Rattle.kernel_rules.specs.declared.entity.Entity.{Entity}
use Rattle.kernel_rules.specs.declared.sums.SumsChange.{SumsChange}
use Rattle.kernel_rules.specs.Clock.{less}
use Rattle.kernel_rules.specs.Reservation.{cleared_of}
use Rattle.kernel_rules.specs.declared.delays.Delayed.{Delayed}
use Rattle.kernel_rules.specs.declared.delays.Delayed.TheVariants.{Moved, ZeroLag}
use Rattle.kernel_rules.specs.declared.delays.Locked.{Locked}
use Rattle.kernel_rules.specs.Timer.{is_gone_of}

abbrev pub stopped_of : Entity → ℕ → ℕ
stopped_of e bw = if e.is_non_contending then less 0 bw else 0

abbrev pub delayed_change_of : Entity → Delayed → ℕ → SumsChange
delayed_change_of e Moved bw = record { this_bw = less 0 bw; running_bw = stopped_of e bw; freed = None; taken = None }
delayed_change_of e ZeroLag bw = record { this_bw = if e.is_dead then stopped_of e bw else 0; running_bw = stopped_of e bw; freed = None; taken = None }

abbrev pub after_delayed_of : Entity → Delayed → Entity
after_delayed_of e Moved = record e { is_non_contending = false; has_inactive_timer = false }
after_delayed_of e ZeroLag = record e { is_non_contending = false }

-- the same by what the entity is when the function has its lock: of a task that has left the class or has ended inactive_task_timer
-- gives the bandwidth back (__dl_sub), and ends the reservation (__dl_clear_params)
abbrev pub lock_change_of : Entity → Delayed → SumsChange
lock_change_of e Moved = record { this_bw = less 0 e.dl_bw; running_bw = stopped_of e e.dl_bw; freed = None; taken = None }
lock_change_of e ZeroLag = record {
  this_bw = if e.is_dead then stopped_of e e.dl_bw else 0;
  running_bw = stopped_of e e.dl_bw;
  freed = if is_gone_of e then Some e.dl_bw else None;
  taken = None;
}

abbrev pub after_lock_of : Entity → Delayed → Entity
after_lock_of e Moved = record e { is_non_contending = false; has_inactive_timer = false }
after_lock_of e ZeroLag = if is_gone_of e then cleared_of e else record e { is_non_contending = false }

abbrev pub locked_of : Entity → Delayed → Locked
locked_of e d = record { entity = after_lock_of e d; change = lock_change_of e d }
