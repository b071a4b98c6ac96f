-- Admissions and leavings balance, and the sums of a runqueue stay its sums.
use Rattle.std.proofs.Common.{◌≡◌, ℕ, ◌*◌, ◌/◌, ◌%◌, ◌^◌, ◌<◌, ◌==◌, Bool, true, false, List, [], ◌∷◌, ◌++◌, if◌then◌else◌, arith, refl}
use Rattle.std.proofs.Math.Nat.{mod-lt, div-le_self}
use Rattle.trace_data.specs.declared.quantities.Sums.{Sums}
use Rattle.trace_data.specs.declared.probe.Admitted.{Admitted}
use Rattle.kernel_rules.specs.declared.entity.Entity.{Entity}
use Rattle.kernel_rules.specs.declared.sums.SumsChange.{SumsChange}
use Rattle.kernel_rules.specs.declared.flags.TheConstants.{QUEUED}
use Rattle.kernel_rules.specs.declared.activity.Block.{Block}
use Rattle.kernel_rules.specs.declared.activity.Block.TheVariants.{Unreserved, ZeroLagTimer, Past}
use Rattle.kernel_rules.specs.Clock.{plus, less, ratio_of}
use Rattle.kernel_rules.specs.Reservation.{reserved_of}
use Rattle.kernel_rules.specs.Activity.{blocking_of, blocked_of, blocking_change_of}
use Rattle.kernel_rules.specs.declared.admissions.Admission.TheVariants.{Changed, Back, New}
use Rattle.kernel_rules.specs.Admit.{admitting_of, admitting_by, is_queued_of, new_of, still_of, enters_of}
use Rattle.kernel_rules.specs.Leave.{leaving_of, outside_of, contends_no_more, leaving_change}
use Rattle.kernel_laws.specs.Summing.{counted, away, blocked_place, Balances, LeaveBalances, AdmissionBalances, place_before, place_entered, place_changed, Standing, total_this, total_running, SumsStay}
use Rattle.kernel_laws.proofs.SumLemmas.{taken_off, kept}

-- a change of one term is a change of the sum
pub joined : (x y c t : ℕ) → plus x c ≡ y → plus (plus x t) c ≡ plus y t
joined x y c t h = rw (← h) (omega arith)

pub behind : (x t u c : ℕ) → plus t c ≡ u → plus (plus x t) c ≡ plus x u
behind x t u c h = rw (← h) (omega arith)

this_stays : (before : List Standing) (one after : Standing) (ss : List Standing) (c : ℕ)
    → plus (counted one.place.in_this one.entity.dl_bw) c ≡ counted after.place.in_this after.entity.dl_bw
    → plus (total_this (before ++ one ∷ ss)) c ≡ total_this (before ++ after ∷ ss)
this_stays [] one after ss c h = joined _ _ c (total_this ss) h
this_stays (s ∷ before) one after ss c h = behind _ _ _ c (this_stays before one after ss c h)

running_stays : (before : List Standing) (one after : Standing) (ss : List Standing) (c : ℕ)
    → plus (counted one.place.in_running one.entity.dl_bw) c ≡ counted after.place.in_running after.entity.dl_bw
    → plus (total_running (before ++ one ∷ ss)) c ≡ total_running (before ++ after ∷ ss)
running_stays [] one after ss c h = joined _ _ c (total_running ss) h
running_stays (s ∷ before) one after ss c h = behind _ _ _ c (running_stays before one after ss c h)

pub sums_stay : (before : List Standing) (one : Standing) (ss : List Standing) (sums : Sums) (change : SumsChange) (after : Standing) → SumsStay before one ss sums change after
sums_stay before one ss sums change after are b = record {
  this = rw are.this (this_stays before one after ss change.this_bw b.this);
  running = rw are.running (running_stays before one after ss change.running_bw b.running);
}

nothing : plus 0 0 ≡ 0
nothing = refl

leaves_queued : (e : Entity) (b : Block) → e.is_server ≡ false → e.is_dead ≡ false
    → Balances e away (blocking_change_of (outside_of e) b) (contends_no_more (blocked_of (outside_of e) b)) away
unfolding outside_of contends_no_more
leaves_queued e Unreserved s d = record { this = refl; running = refl }
leaves_queued e (ZeroLagTimer _) s d = record { this = refl; running = refl }
leaves_queued e Past s d = rw s (rw d (record { this = refl; running = refl }))

leaves_blocked : (e : Entity) (non : Bool) → e.is_non_contending ≡ non → e.dl_bw < 2 ^ 64
    → Balances e (blocked_place e.is_non_contending) (leaving_change (outside_of e)) (contends_no_more (outside_of e)) away
unfolding outside_of contends_no_more leaving_change
leaves_blocked e true n h = rw n (record { this = taken_off e.dl_bw h; running = taken_off e.dl_bw h })
leaves_blocked e false n h = rw n (record { this = taken_off e.dl_bw h; running = refl })

leaves_by : (e : Entity) (on_rq clock : ℕ) (queued : Bool) → (on_rq == QUEUED) ≡ queued → e.is_server ≡ false → e.is_dead ≡ false → e.dl_bw < 2 ^ 64
    → Balances e (if on_rq == QUEUED then away else blocked_place e.is_non_contending) (leaving_of e on_rq clock).change (leaving_of e on_rq clock).entity away
unfolding leaving_of
leaves_by e on_rq clock true q s d h = rw q (leaves_queued e (blocking_of (outside_of e) clock) s d)
leaves_by e on_rq clock false q s d h = rw q (leaves_blocked e _ refl h)

pub leave_balances : (e : Entity) (on_rq clock : ℕ) → LeaveBalances e on_rq clock
leave_balances e on_rq clock s d h = leaves_by e on_rq clock _ refl s d h

-- a bandwidth has 64 bits
pub ratio_fits : (runtime period : ℕ) → ratio_of runtime period < 2 ^ 64
ratio_fits runtime period =
    elim (period == 0) as (λ b. (if b then 0 else runtime * 2 ^ 20 % 2 ^ 64 / period) < 2 ^ 64) [
      | true ↦ omega arith
      | false ↦ omega (arith, div-le_self (runtime * 2 ^ 20 % 2 ^ 64) period, mod-lt (runtime * 2 ^ 20) {m = 2 ^ 64} (omega arith))
    ]

exchanged : (old new : ℕ) → old < 2 ^ 64 → new < 2 ^ 64 → plus old (less new old) ≡ new
exchanged old new h k = omega arith

all_of : (bw : ℕ) → bw < 2 ^ 64 → plus 0 bw ≡ bw
all_of bw h = omega arith

changed_by : (e : Entity) (l : Admitted) (queued non : Bool) → is_queued_of l ≡ queued → e.is_non_contending ≡ non → e.dl_bw < 2 ^ 64
    → Balances e (place_before e (is_queued_of l)) (admitting_by e l Changed).change (admitting_by e l Changed).entity (place_changed (is_queued_of l))
unfolding still_of reserved_of
changed_by e l true non q n h = rw q (record { this = kept e.dl_bw h; running = kept e.dl_bw h })
changed_by e l false true q n h = rw q (rw n (record { this = exchanged e.dl_bw (new_of l) h (ratio_fits _ _); running = taken_off e.dl_bw h }))
changed_by e l false false q n h = rw q (rw n (record { this = exchanged e.dl_bw (new_of l) h (ratio_fits _ _); running = refl }))

entered_by : (e : Entity) (l : Admitted) (queued : Bool) → is_queued_of l ≡ queued
    → Balances e away (admitting_by e l New).change (admitting_by e l New).entity (place_entered (is_queued_of l))
unfolding enters_of reserved_of
entered_by e l true q = rw q (record { this = refl; running = refl })
entered_by e l false q = rw q (record { this = all_of (new_of l) (ratio_fits _ _); running = refl })

back_by : (e : Entity) (l : Admitted) (queued : Bool) → is_queued_of l ≡ queued
    → Balances e away (admitting_by e l Back).change (admitting_by e l Back).entity (place_entered (is_queued_of l))
unfolding enters_of reserved_of
back_by e l true q = rw q (record { this = refl; running = refl })
back_by e l false q = rw q (record { this = all_of (new_of l) (ratio_fits _ _); running = refl })

pub admission_balances : (e : Entity) (l : Admitted) (cpus : ℕ) → AdmissionBalances e l cpus
unfolding admitting_of
admission_balances e l cpus = record {
  entered = λ a. rw a (entered_by e l _ refl);
  came_back = λ a. rw a (back_by e l _ refl);
  changed = λ a h. rw a (changed_by e l _ _ refl refl h);
}
