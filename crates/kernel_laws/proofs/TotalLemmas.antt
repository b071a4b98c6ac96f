-- Each event moves total_bw by what its task has reserved.
use Rattle.std.proofs.Common.{◌≡◌, ℕ, ◌^◌, ◌<◌, Bool, true, false, not, None, List, [], ◌∷◌, ◌++◌, arith, refl}
use Rattle.trace_data.specs.declared.probe.Admitted.{Admitted}
use Rattle.trace_data.specs.declared.probe.Enqueued.{Enqueued}
use Rattle.kernel_rules.specs.declared.entity.Entity.{Entity}
use Rattle.kernel_rules.specs.declared.sums.SumsChange.{SumsChange}
use Rattle.kernel_rules.specs.declared.charge.ChargeLaw.{ChargeLaw}
use Rattle.kernel_rules.specs.declared.flags.TheConstants.{WAKEUP}
use Rattle.kernel_rules.specs.declared.activity.Block.{Block}
use Rattle.kernel_rules.specs.declared.activity.Block.TheVariants.{Unreserved, ZeroLagTimer, Past}
use Rattle.kernel_rules.specs.Clock.{plus, less, contains_bits}
use Rattle.kernel_rules.specs.Reservation.{reserved_of, cleared_of}
use Rattle.kernel_rules.specs.Activity.{blocking_of, blocked_of, blocking_change_of, ends_of}
use Rattle.kernel_rules.specs.declared.admissions.Admission.TheVariants.{Changed, Back, New}
use Rattle.kernel_rules.specs.declared.delays.Delayed.TheVariants.{ZeroLag}
use Rattle.kernel_rules.specs.declared.enqueues.Boost.{Boost}
use Rattle.kernel_rules.specs.declared.enqueues.Boost.TheVariants.{Ordinary, Boosted, Ends}
use Rattle.kernel_rules.specs.declared.enqueues.Arrival.{Arrival}
use Rattle.kernel_rules.specs.declared.enqueues.Arrival.TheVariants.{Stays, Moves, Restores}
use Rattle.kernel_rules.specs.Admit.{admitting_of, admitting_by, is_queued_of, new_of, still_of, enters_of}
use Rattle.kernel_rules.specs.Leave.{leaving_of, outside_of, contends_no_more, leaving_change}
use Rattle.kernel_rules.specs.Dequeue.{dequeuing_of, departing_of, departing_change, sleeping_of, off_of}
use Rattle.kernel_rules.specs.Enqueue.{enqueuing_of, enqueuing_by, boosting_of, arriving_of, arriving_change, waking_up_of}
use Rattle.kernel_rules.specs.Later.{lock_change_of, after_lock_of}
use Rattle.kernel_rules.specs.Timer.{is_gone_of}
use Rattle.kernel_laws.specs.Summing.{counted}
use Rattle.kernel_laws.specs.Totals.{total_change, bandwidth_of, MovesTotal, IsSettled, AdmissionMovesTotal, is_reserved_by, SleepMovesTotal, ZeroLagMovesTotal, LeaveMovesTotal, OthersKeepTotal, Reserving, total_reserved, TotalStays}
use Rattle.kernel_laws.proofs.MoreSums.{joined, behind, ratio_fits}

stays : (bw : ℕ) → bw < 2 ^ 64 → plus bw (plus (less 0 0) 0) ≡ bw
stays bw h = omega arith

given_back : (bw : ℕ) → bw < 2 ^ 64 → plus bw (plus (less 0 bw) 0) ≡ 0
given_back bw h = omega arith

comes : (bw : ℕ) → bw < 2 ^ 64 → plus 0 (plus (less 0 0) bw) ≡ bw
comes bw h = omega arith

turns : (old new : ℕ) → old < 2 ^ 64 → new < 2 ^ 64 → plus old (plus (less 0 old) new) ≡ new
turns old new h k = omega arith

entered_by : (e : Entity) (l : Admitted) (queued : Bool) → is_queued_of l ≡ queued
    → MovesTotal e false (admitting_by e l New).change (admitting_by e l New).entity true
unfolding enters_of reserved_of
entered_by e l true q = rw q (comes (new_of l) (ratio_fits _ _))
entered_by e l false q = rw q (comes (new_of l) (ratio_fits _ _))

back_by : (e : Entity) (l : Admitted) (queued : Bool) → is_queued_of l ≡ queued → IsSettled e
    → MovesTotal e true (admitting_by e l Back).change (admitting_by e l Back).entity true
unfolding enters_of reserved_of
back_by e l true q s = rw q (rw s.settled (turns e.dl_bw (new_of l) s.fits (ratio_fits _ _)))
back_by e l false q s = rw q (rw s.settled (turns e.dl_bw (new_of l) s.fits (ratio_fits _ _)))

changed_by : (e : Entity) (l : Admitted) (queued : Bool) → is_queued_of l ≡ queued → IsSettled e
    → MovesTotal e true (admitting_by e l Changed).change (admitting_by e l Changed).entity true
unfolding still_of reserved_of
changed_by e l true q s = rw q (rw s.settled (turns e.dl_bw (new_of l) s.fits (ratio_fits _ _)))
changed_by e l false q s = rw q (rw s.settled (turns e.dl_bw (new_of l) s.fits (ratio_fits _ _)))

pub admission_moves_total : (e : Entity) (l : Admitted) (room : ℕ) → AdmissionMovesTotal e l room
unfolding admitting_of
admission_moves_total e l room = record {
  entered = λ a. rw a (entered_by e l _ refl);
  came_back = λ a s. rw a (back_by e l _ refl s);
  changed = λ a s. rw a (changed_by e l _ refl s);
  refused = λ a s. rw a (rw s.settled (stays e.dl_bw s.fits));
  other = λ a s. rw a (rw s.settled (stays e.dl_bw s.fits));
}

past_by : (e : Entity) (ends : Bool) → ends_of e ≡ ends → IsSettled e → (c : SumsChange)
    → MovesTotal e true (record { this_bw = c.this_bw; running_bw = c.running_bw; freed = (blocking_change_of e Past).freed; taken = None }) (blocked_of e Past) (not (ends_of e))
unfolding cleared_of
past_by e true k s c = rw k (rw s.settled (given_back e.dl_bw s.fits))
past_by e false k s c = rw k (rw s.settled (stays e.dl_bw s.fits))

-- a block, with whatever it does to the sums of the runqueue
blocks : (e : Entity) (b : Block) → IsSettled e → (c : SumsChange)
    → MovesTotal e true (record { this_bw = c.this_bw; running_bw = c.running_bw; freed = (blocking_change_of e b).freed; taken = None }) (blocked_of e b) (is_reserved_by e b)
blocks e Unreserved s c = rw s.settled (stays e.dl_bw s.fits)
blocks e (ZeroLagTimer _) s c = rw s.settled (stays e.dl_bw s.fits)
blocks e Past s c = past_by e _ refl s c

off_settled : (e : Entity) → IsSettled e → IsSettled (off_of e)
unfolding off_of
off_settled e s = record { task = s.task; settled = s.settled; fits = s.fits }

pub sleep_moves_total : (e : Entity) (flags on_rq clock : ℕ) → SleepMovesTotal e flags on_rq clock
unfolding dequeuing_of sleeping_of off_of
sleep_moves_total e flags on_rq clock s w =
    rw w (blocks (off_of e) (blocking_of (off_of e) clock) (off_settled e s) (sleeping_of (off_of e) clock (departing_change (off_of e) (departing_of flags on_rq)) (departing_of flags on_rq)).change)

zero_lag_by : (e : Entity) (gone : Bool) → is_gone_of e ≡ gone → IsSettled e
    → MovesTotal e true (lock_change_of e ZeroLag) (after_lock_of e ZeroLag) (not (is_gone_of e))
unfolding cleared_of
zero_lag_by e true k s = rw k (rw s.settled (given_back e.dl_bw s.fits))
zero_lag_by e false k s = rw k (rw s.settled (stays e.dl_bw s.fits))

pub zero_lag_moves_total : (e : Entity) → ZeroLagMovesTotal e
zero_lag_moves_total e s = zero_lag_by e _ refl s

leaves_queued : (e : Entity) (b : Block) → IsSettled e
    → MovesTotal e true (blocking_change_of (outside_of e) b) (contends_no_more (blocked_of (outside_of e) b)) (is_reserved_by (outside_of e) b)
unfolding outside_of contends_no_more cleared_of
leaves_queued e Unreserved s = rw s.settled (stays e.dl_bw s.fits)
leaves_queued e (ZeroLagTimer _) s = rw s.settled (stays e.dl_bw s.fits)
leaves_queued e Past s = rw s.task (rw s.settled (given_back e.dl_bw s.fits))

leaves_blocked : (e : Entity) → IsSettled e → MovesTotal e true (leaving_change (outside_of e)) (contends_no_more (outside_of e)) true
unfolding outside_of contends_no_more leaving_change
leaves_blocked e s = rw s.settled (stays e.dl_bw s.fits)

keeps_asleep : (e : Entity) → total_change (leaving_change (outside_of e)) ≡ 0
unfolding leaving_change
keeps_asleep e = refl

pub leave_moves_total : (e : Entity) (on_rq clock : ℕ) → LeaveMovesTotal e on_rq clock
unfolding leaving_of
leave_moves_total e on_rq clock = record {
  queued = λ s q. rw q (leaves_queued e (blocking_of (outside_of e) clock) s);
  awaited = λ s q t. rw q (leaves_blocked e s);
  asleep = λ q t. rw q (keeps_asleep e);
}

wakes_up : (e : Entity) (flags : ℕ) (c : SumsChange) (wakes : Bool) → contains_bits flags WAKEUP ≡ wakes → total_change c ≡ 0 → total_change (waking_up_of e c flags).change ≡ 0
unfolding waking_up_of
wakes_up e flags c true w h = rw w h
wakes_up e flags c false w h = rw w h

arrives : (e : Entity) (a : Arrival) → total_change (arriving_change e a) ≡ 0
unfolding arriving_change
arrives e Stays = refl
arrives e Moves = refl
arrives e Restores = refl

enters : (law : ChargeLaw) (e : Entity) (l : Enqueued) (b : Boost) → total_change (enqueuing_by law e l b).change ≡ 0
enters law e l Ends = refl
enters law e l Ordinary = wakes_up _ l.flags _ _ refl (arrives _ (arriving_of l))
enters law e l Boosted = wakes_up _ l.flags _ _ refl (arrives _ (arriving_of l))

departs : (e : Entity) (a : Arrival) → total_change (departing_change e a) ≡ 0
unfolding departing_change
departs e Stays = refl
departs e Moves = refl
departs e Restores = refl

pub others_keep_total : (law : ChargeLaw) (e : Entity) (l : Enqueued) (flags on_rq clock : ℕ) → OthersKeepTotal law e l flags on_rq clock
unfolding enqueuing_of dequeuing_of
others_keep_total law e l flags on_rq clock = record {
  enqueue = enters law e l (boosting_of l);
  dequeue = λ w. rw w (departs (off_of e) (departing_of flags on_rq));
  move = refl;
}

reserved_stays : (before : List Reserving) (one after : Reserving) (rs : List Reserving) (c : ℕ)
    → plus (counted one.is_reserved (bandwidth_of one.entity)) c ≡ counted after.is_reserved (bandwidth_of after.entity)
    → plus (total_reserved (before ++ one ∷ rs)) c ≡ total_reserved (before ++ after ∷ rs)
reserved_stays [] one after rs c h = joined _ _ c (total_reserved rs) h
reserved_stays (r ∷ before) one after rs c h = behind _ _ _ c (reserved_stays before one after rs c h)

pub total_stays : (before : List Reserving) (one : Reserving) (rs : List Reserving) (total : ℕ) (change : SumsChange) (after : Reserving) → TotalStays before one rs total change after
total_stays before one rs total change after is m = rw is (reserved_stays before one after rs (total_change change) m)
