-- Threads of schedutil (SCHED_FLAG_SUGOV, dl_entity_is_special): they are in no sum, are not charged and wait for no 0-lag time.
use Rattle.std.specs.Prelude.{ℕ, Bool, if◌then◌else◌}
use Rattle.trace_data.specs.declared.quantities.Parameters.{Parameters}
use Rattle.kernel_rules.specs.declared.entity.Entity.{Entity}
use Rattle.kernel_rules.specs.Clock.{contains_bits}
use Rattle.kernel_rules.specs.Reservation.{reserved_of}

-- SCHED_FLAG_SUGOV
abbrev pub is_special : Entity → Bool
is_special e = contains_bits e.parameters.flags 268435456

abbrev pub reservation_of : Entity → Parameters → Entity
reservation_of e p = if contains_bits p.flags 268435456 then record (reserved_of e p) { dl_bw = 0 } else reserved_of e p
