-- Three of the four moves of a run: when an effect has its point, when what was read has, when the rest of a dequeue comes.
use Rattle.std.specs.Prelude.{ℕ, Bool, true, false, not, ◌&&◌, ◌||◌, ◌==◌, if◌then◌else◌, Option, Some, None, List, [], ◌∷◌, ◌++◌, length, nat_lt, position, remove, slice_get}
use Rattle.std.specs.List.{list_any}
use Rattle.kernel_rules.specs.declared.entity.Entity.{Entity}
use Rattle.kernel_rules.specs.declared.sums.SumsChange.{SumsChange}
use Rattle.kernel_rules.specs.declared.delays.Delayed.{Delayed}
use Rattle.kernel_rules.specs.declared.delays.Delayed.TheVariants.{Moved, ZeroLag}
use Rattle.kernel_rules.specs.Dequeue.{off_of}
use Rattle.kernel_rules.specs.Later.{locked_of}
use Rattle.probe_findings.specs.declared.words.ProbedLine.{ProbedLine}
use Rattle.probe_run.specs.declared.actor.Actor.{Actor}
use Rattle.probe_run.specs.declared.rules.PlayRules.{PlayRules}
use Rattle.probe_run.specs.declared.waiting.UnlockedSum.{UnlockedSum}
use Rattle.probe_run.specs.declared.waiting.Effect.{Effect}
use Rattle.probe_run.specs.declared.waiting.Effect.TheVariants.{Adds, Locks, Returns, MovesOffline}
use Rattle.probe_run.specs.declared.waiting.PendingEffect.{PendingEffect}
use Rattle.probe_run.specs.declared.waiting.Claim.{Claim}
use Rattle.probe_run.specs.declared.waiting.Awaits.{Awaits}
use Rattle.probe_run.specs.declared.waiting.Awaits.TheVariants.{Charge, Enqueue, Nothing}
use Rattle.probe_run.specs.declared.waiting.OpenDequeue.{OpenDequeue}
use Rattle.probe_run.specs.declared.moves.RunMove.{RunMove}
use Rattle.probe_run.specs.declared.moves.RunMove.TheVariants.{Settle, Meet, OpenDequeue as MakeDequeue}
use Rattle.probe_run.specs.State.{State, same_sum, actor_at, keep_at}
use Rattle.probe_run.specs.Special.{is_special}
use Rattle.probe_run.specs.Sums.{sum_of, put_sum, moved, change, forget, forget_unlocked, share_in, block_in}
use Rattle.probe_run.specs.Counting.{where_it_holds}
use Rattle.probe_run.specs.Handlers.{handler_runs, is_handler_by, dequeuing_while}

-- a pending effect has its point here; a call reads a sum before it changes it, and a handler returns behind its lock
abbrev pub is_claim_by : ℕ → Claim → Bool
is_claim_by by c = c.place.cpu == by

abbrev pub reads_first : ℕ → UnlockedSum → Claim → Bool
reads_first by sum c = is_claim_by by c && same_sum c.sum sum

abbrev pub is_moved : Delayed → Bool
is_moved Moved = true
is_moved ZeroLag = false

abbrev pub forgets_unknown : State → ℕ → Actor → Delayed → State
forgets_unknown s cpu a delayed = if is_moved delayed || a.knows_contending then s else forget s cpu

abbrev pub kept_locked : State → ℕ → ℕ → Actor → Delayed → Entity → State
kept_locked s cpu n a delayed entity = keep_at (forgets_unknown s cpu a delayed) n (record a { entity = entity; knows_contending = true })

abbrev pub changed_and_shared : State → ProbedLine → ℕ → ℕ → SumsChange → State
changed_and_shared s place cpu of c = share_in (change s cpu c) place of c

abbrev pub locked_by : State → ProbedLine → ℕ → ℕ → Delayed → State
locked_by s place cpu n delayed =
    let a = actor_at s n in
    let done = locked_of a.entity delayed in
    changed_and_shared (kept_locked s cpu n a delayed done.entity) place cpu a.cpu done.change

abbrev pub settled_by : State → ProbedLine → Effect → Option State
settled_by s place (Adds sum amount) = where_it_holds (not (list_any (reads_first place.cpu sum) s.claims)) (put_sum s sum (moved (sum_of s sum) amount))
settled_by s place (Locks cpu n delayed) = Some (locked_by s place cpu n delayed)
settled_by s place (Returns n) = where_it_holds (not (list_any (is_handler_by place.cpu n) s.pending)) s
settled_by s place MovesOffline = Some (forget_unlocked s)

abbrev pub settle_at : State → ℕ → Option PendingEffect → Option State
settle_at s k None = None
settle_at s k (Some p) = settled_by (record s { pending = remove s.pending k }) p.place p.effect

abbrev pub settle_of : State → ℕ → Option State
settle_of s k = settle_at s k (slice_get s.pending k)

-- what was read has its point here
abbrev pub agrees_with : Option ℕ → ℕ → Bool
agrees_with None shown = true
agrees_with (Some known) shown = known == shown

abbrev pub met_with : State → Claim → Option State
met_with s c = where_it_holds (agrees_with (sum_of s c.sum) c.value) (put_sum s c.sum (Some c.value))

abbrev pub without_claim : State → ℕ → State
without_claim s i = record s { claims = if nat_lt i (length s.claims) then remove s.claims i else s.claims }

abbrev pub met_by : State → ℕ → Option Claim → Option State
met_by s i None = None
met_by s i (Some c) = met_with (without_claim s i) c

abbrev pub met_at : State → Option ℕ → Option State
met_at s None = None
met_at s (Some i) = met_by s i (slice_get s.claims i)

abbrev pub meet_of : State → ℕ → Option State
meet_of s x = met_at s (position (is_claim_by x) s.claims)

-- what of dequeue_task_dl comes after the charge within it (dequeue_dl_entity)
abbrev pub is_rest_by : ℕ → OpenDequeue → Bool
is_rest_by x w = w.place.cpu == x

abbrev pub awaits_charge : Awaits → Bool
awaits_charge Charge = true
awaits_charge Enqueue = false
awaits_charge Nothing = false

abbrev pub awaits_enqueue : Awaits → Bool
awaits_enqueue Charge = false
awaits_enqueue Enqueue = true
awaits_enqueue Nothing = false

abbrev pub unseen_of : Actor → Actor
unseen_of a = record a { entity = off_of a.entity; knows_budget = false; knows_contending = false }

abbrev pub rested_known : PlayRules → State → OpenDequeue → Actor → State
rested_known t s w a =
    let done = dequeuing_while (handler_runs s w.entity) a.entity w.flags w.on_rq w.clock in
    block_in t (change (keep_at s w.entity (record a { entity = done.entity })) w.cpu done.change) w.place w.entity a.cpu done.change done.block

abbrev pub rested_unknown : State → OpenDequeue → Actor → State
rested_unknown s w a =
    let unseen = forget (keep_at s w.entity (unseen_of a)) w.cpu in
    record unseen { older_dequeues = unseen.older_dequeues ++ record { by = w.place.cpu; entity = w.entity } ∷ [] }

abbrev pub rested_by : PlayRules → State → OpenDequeue → Actor → State
rested_by t s w a =
    if not a.knows_parameters then rested_unknown s w a
    else (if is_special a.entity then keep_at s w.entity (record a { entity = off_of a.entity }) else rested_known t s w a)

abbrev pub without_dequeue : State → ℕ → State
without_dequeue s i = record s { open_dequeues = if nat_lt i (length s.open_dequeues) then remove s.open_dequeues i else s.open_dequeues }

abbrev pub with_early : State → OpenDequeue → State
with_early s w = if awaits_charge w.awaits then record s { early = s.early ++ w ∷ [] } else s

abbrev pub rest_with : PlayRules → State → ℕ → OpenDequeue → State
rest_with t s i w = rested_by t (with_early (without_dequeue s i) w) w (actor_at s w.entity)

abbrev pub rest_found : PlayRules → State → ℕ → Option OpenDequeue → Option State
rest_found t s i None = None
rest_found t s i (Some w) = where_it_holds (not (awaits_enqueue w.awaits)) (rest_with t s i w)

abbrev pub rest_at : PlayRules → State → Option ℕ → Option State
rest_at t s None = None
rest_at t s (Some i) = rest_found t s i (slice_get s.open_dequeues i)

abbrev pub rest_of : PlayRules → State → ℕ → Option State
rest_of t s x = rest_at t s (position (is_rest_by x) s.open_dequeues)

-- what a search may choose before a line
abbrev pub moved_of : PlayRules → State → RunMove → Option State
moved_of t s (Settle k) = settle_of s k
moved_of t s (Meet x) = meet_of s x
moved_of t s (MakeDequeue x) = rest_of t s x
