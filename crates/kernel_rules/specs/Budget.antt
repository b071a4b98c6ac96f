-- Budget and deadline of an entity.
use Rattle.std.specs.Prelude.{ℕ, ◌+◌, ◌*◌, ◌/◌, ◌^◌, ℤ, pos, negsuc, int_lt, unsigned_abs, Bool, false, not, ◌&&◌, ◌||◌, ◌==◌, nat_lt, if◌then◌else◌, is_none}
use Rattle.std.specs.Int.{w64, cast_unsigned, int_shr, int_wrapping_add, int_wrapping_sub}
use Rattle.trace_data.specs.declared.quantities.Donor.{Donor}
use Rattle.kernel_rules.specs.declared.charge.ChargeLaw.{ChargeLaw}
use Rattle.kernel_rules.specs.declared.charge.ChargeLaw.TheVariants.{LinuxBefore65, LinuxFrom65, Documentation}
use Rattle.kernel_rules.specs.declared.budget.Wake.{Wake}
use Rattle.kernel_rules.specs.declared.budget.Wake.TheVariants.{Kept, Revised, Renewed}
use Rattle.kernel_rules.specs.declared.entity.Entity.{Entity}
use Rattle.kernel_rules.specs.Clock.{plus, less, times, signed, comes_before, ratio_of}
use Rattle.kernel_rules.specs.Reservation.{serving_of}

-- replenish_dl_new_period
unfoldable pub renewed_of : Entity → ℕ → Entity
renewed_of e clock =
    let by = serving_of e in
    record e { budget = record e.budget { runtime = signed by.dl_runtime; deadline = plus clock by.dl_deadline } }

-- dl_entity_overflow: the budget over the span to the deadline is more than runtime over deadline; the kernel drops 10 bits of each factor
abbrev pub overflows_by : ChargeLaw → Donor → ℤ → ℕ → Bool
overflows_by LinuxBefore65 by q span = comes_before (times (span / 2 ^ 10) (by.dl_runtime / 2 ^ 10)) (times (by.dl_deadline / 2 ^ 10) (cast_unsigned w64 (int_shr q 10)))
overflows_by LinuxFrom65 by q span = comes_before (times (span / 2 ^ 10) (by.dl_runtime / 2 ^ 10)) (times (by.dl_deadline / 2 ^ 10) (cast_unsigned w64 (int_shr q 10)))
overflows_by Documentation by q span = int_lt (pos 0) q && nat_lt (span * by.dl_runtime) (cast_unsigned w64 q * by.dl_deadline)

unfoldable pub overflows_of : ChargeLaw → Entity → ℕ → Bool
overflows_of law e clock = overflows_by law (serving_of e) e.budget.runtime (less e.budget.deadline clock)

-- update_dl_entity
unfoldable pub waking_of : ChargeLaw → Entity → ℕ → Wake
waking_of law e clock =
    if comes_before e.budget.deadline clock then Renewed
    else (if overflows_of law e clock
    then (if not (e.parameters.dl_deadline == e.parameters.dl_period) && is_none e.donor then Revised else Renewed)
    else Kept)

-- update_dl_revised_wakeup
unfoldable pub revised_of : Entity → ℕ → Entity
revised_of e clock =
    record e { budget = record e.budget { runtime = signed (times (ratio_of e.parameters.dl_runtime e.parameters.dl_deadline) (less e.budget.deadline clock) / 2 ^ 20) } }

abbrev pub woken_of : Entity → ℕ → Wake → Entity
woken_of e clock Kept = e
woken_of e clock Revised = revised_of e clock
woken_of e clock Renewed = renewed_of e clock

-- the least k with q + k * runtime above 0; 0 where the runtime is 0
abbrev pub recharges_of : ℤ → ℕ → ℕ
recharges_of q runtime = if int_lt (pos 0) q || runtime == 0 then 0 else unsigned_abs q / runtime + 1

-- a yield gives up what is left
abbrev pub left_of : Entity → ℤ
left_of e = if e.budget.is_yielded && int_lt (pos 0) e.budget.runtime then pos 0 else e.budget.runtime

-- the loop of replenish_dl_entity
unfoldable pub recharged_of : Entity → Entity
recharged_of e =
    let by = serving_of e in
    let k = recharges_of (left_of e) by.dl_runtime in
    record e { budget = record e.budget { runtime = int_wrapping_add w64 (left_of e) (signed (times k by.dl_runtime)); deadline = plus e.budget.deadline (times k by.dl_period) } }

abbrev pub ready_of : Entity → Entity
ready_of e = record e { budget = record e.budget { is_throttled = false; is_yielded = false } }

abbrev pub renewed_if : Bool → Entity → ℕ → Entity
renewed_if b e clock = if b then renewed_of e clock else e

-- replenish_dl_entity
unfoldable pub replenished_of : Entity → ℕ → Entity
replenished_of e clock =
    let recharged = recharged_of (renewed_if (e.parameters.dl_deadline == 0) e clock) in
    ready_of (renewed_if (comes_before recharged.budget.deadline clock) recharged clock)

-- the same with no clock: in time
unfoldable pub replenished_blocked_of : Entity → Entity
replenished_blocked_of e = ready_of (recharged_of e)

-- start_dl_timer: the next period is less than a microsecond past
abbrev pub timer_is_ahead : Entity → ℕ → Bool
timer_is_ahead e clock =
    int_lt (negsuc 999) (signed (less (plus (less e.budget.deadline e.parameters.dl_deadline) e.parameters.dl_period) clock))

-- update_curr_dl_se
unfoldable pub charged_of : Entity → ℕ → Entity
charged_of e cost = record e { budget = record e.budget { runtime = int_wrapping_sub w64 e.budget.runtime (signed cost) } }
