-- A task is dequeued: dequeue_task_dl, dequeue_dl_entity.
use Rattle.std.specs.Prelude.{ℕ, false, ◌==◌, if◌then◌else◌, Some, None}
use Rattle.kernel_rules.specs.declared.entity.Entity.{Entity}
use Rattle.kernel_rules.specs.declared.sums.SumsChange.{SumsChange}
use Rattle.kernel_rules.specs.declared.flags.TheConstants.{WAKEUP, RESTORE, MOVING}
use Rattle.kernel_rules.specs.Clock.{plus, less, contains_bits}
use Rattle.kernel_rules.specs.Sums.{no_change}
use Rattle.kernel_rules.specs.Activity.{blocking_of, blocked_of, blocking_change_of}
use Rattle.kernel_rules.specs.declared.enqueues.Arrival.{Arrival}
use Rattle.kernel_rules.specs.declared.enqueues.Arrival.TheVariants.{Stays, Moves, Restores}
use Rattle.kernel_rules.specs.declared.dequeues.Dequeuing.{Dequeuing}

unfoldable pub departing_of : ℕ → ℕ → Arrival
departing_of flags on_rq = if on_rq == MOVING then Moves else (if contains_bits flags RESTORE then Restores else Stays)

abbrev pub gone_with : ℕ → SumsChange
gone_with bw = record { this_bw = less 0 bw; running_bw = less 0 bw; freed = None; taken = None }

unfoldable pub departing_change : Entity → Arrival → SumsChange
departing_change e Stays = no_change
departing_change e Moves = gone_with e.dl_bw
departing_change e Restores = gone_with e.dl_bw

-- it blocks: on_rq becomes 0
unfoldable pub off_of : Entity → Entity
off_of e = record e { is_in_tree = false; is_queued = false }

-- it is saved or moved: on_rq does not become 0, so a dl_task_timer that waits for the lock finds it queued
unfoldable pub taken_of : Entity → Entity
taken_of e = record e { is_in_tree = false }

unfoldable pub sleeping_of : Entity → ℕ → SumsChange → Arrival → Dequeuing
sleeping_of e clock c departure =
    let block = blocking_of e clock in
    let more = blocking_change_of e block in
    record {
      entity = blocked_of e block;
      change = record { this_bw = plus c.this_bw more.this_bw; running_bw = plus c.running_bw more.running_bw; freed = more.freed; taken = None };
      departure = departure;
      block = Some block;
    }

unfoldable pub dequeuing_of : Entity → ℕ → ℕ → ℕ → Dequeuing
dequeuing_of e flags on_rq clock =
    let departure = departing_of flags on_rq in
    let c = departing_change (off_of e) departure in
    if contains_bits flags WAKEUP then sleeping_of (off_of e) clock c departure
    else record { entity = taken_of e; change = c; departure = departure; block = None }
