-- A timer fires: inactive_task_timer, dl_task_timer.
use Rattle.std.specs.Prelude.{Bool, true, false, not, ◌&&◌, ◌||◌, if◌then◌else◌, Some, None, is_none}
use Rattle.kernel_rules.specs.declared.entity.Entity.{Entity}
use Rattle.kernel_rules.specs.Reservation.{cleared_of}
use Rattle.kernel_rules.specs.Budget.{replenished_blocked_of}
use Rattle.kernel_rules.specs.declared.timers.Fired.{Fired}

abbrev pub is_gone_of : Entity → Bool
is_gone_of e = not e.is_server && (not e.is_in_class || e.is_dead)

abbrev pub disarmed_of : Entity → Entity
disarmed_of e = record e { has_inactive_timer = false }

-- inactive_task_timer
unfoldable pub fired_of : Entity → Fired
fired_of e = record {
  entity = if e.is_in_class || e.is_server then disarmed_of e else cleared_of (disarmed_of e);
  stops = e.is_non_contending;
  freed = if is_gone_of e then Some e.dl_bw else None;
}

-- dl_task_timer
unfoldable pub replenish_fired_of : Entity → Entity
replenish_fired_of e =
    let disarmed = record e { has_deadline_timer = false } in
    if e.is_in_class && e.budget.is_throttled && not e.is_queued && is_none e.donor
    then record (replenished_blocked_of disarmed) { is_late = true }
    else disarmed
