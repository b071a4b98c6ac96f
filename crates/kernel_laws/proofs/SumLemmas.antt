-- Each event balances.
use Rattle.std.proofs.Common.{◌≡◌, ℕ, None, ◌^◌, ◌<◌, true, false, not, if◌then◌else◌, arith, refl}
use Rattle.kernel_rules.specs.declared.entity.Entity.{Entity}
use Rattle.kernel_rules.specs.declared.activity.Block.{Block}
use Rattle.kernel_rules.specs.declared.activity.Block.TheVariants.{Unreserved, ZeroLagTimer, Past}
use Rattle.kernel_rules.specs.Clock.{plus, less}
use Rattle.kernel_rules.specs.Activity.{blocking_of, blocked_of, blocking_change_of}
use Rattle.kernel_rules.specs.Dequeue.{dequeuing_of, departing_of, departing_change, sleeping_of, off_of, taken_of}
use Rattle.kernel_laws.specs.Summing.{counted, active, Balances, IsInClass, place_after, SleepBalances, SaveBalances, MoveBalances, ZeroLagBalances}

-- what is taken off is gone
pub taken_off : (bw : ℕ) → bw < 2 ^ 64 → plus bw (less 0 bw) ≡ 0
taken_off bw h = omega arith

taken_off_after : (bw : ℕ) → bw < 2 ^ 64 → plus bw (plus 0 (less 0 bw)) ≡ 0
taken_off_after bw h = omega arith

pub kept : (bw : ℕ) → bw < 2 ^ 64 → plus bw 0 ≡ bw
kept bw h = omega arith

pub none : plus 0 0 ≡ 0
none = refl

pub move_balances : (e : Entity) → MoveBalances e
move_balances e o = record {
  this = taken_off e.dl_bw o.fits;
  running = elim e.is_non_contending
      as (λ b. plus (counted b e.dl_bw) (if b then less 0 e.dl_bw else 0) ≡ 0) [ true ↦ taken_off e.dl_bw o.fits | false ↦ none ];
}

pub zero_lag_balances : (e : Entity) → ZeroLagBalances e
zero_lag_balances e o h = record {
  this = rw h (elim e.is_dead
      as (λ b. plus e.dl_bw (if b then less 0 e.dl_bw else 0) ≡ counted (not b) e.dl_bw) [ true ↦ taken_off e.dl_bw o.fits | false ↦ kept e.dl_bw o.fits ]);
  running = rw h (taken_off e.dl_bw o.fits);
}

pub save_balances : (e : Entity) (flags on_rq clock : ℕ) → SaveBalances e flags on_rq clock
unfolding dequeuing_of departing_of departing_change off_of taken_of
save_balances e flags on_rq clock o w s m =
    rw w (rw m (rw s (record { this = taken_off e.dl_bw o.fits; running = taken_off e.dl_bw o.fits })))

sleeps : (e : Entity) → IsInClass e → e.is_dead ≡ false → (b : Block)
    → Balances e active
    (record { this_bw = plus 0 (blocking_change_of (off_of e) b).this_bw; running_bw = plus 0 (blocking_change_of (off_of e) b).running_bw; freed = (blocking_change_of (off_of e) b).freed; taken = None })
    (blocked_of (off_of e) b) (place_after b)
unfolding off_of
sleeps e o d Unreserved = record { this = kept e.dl_bw o.fits; running = kept e.dl_bw o.fits }
sleeps e o d (ZeroLagTimer _) = record { this = kept e.dl_bw o.fits; running = kept e.dl_bw o.fits }
sleeps e o d Past =
    rw o.class (rw o.task (rw d (record { this = kept e.dl_bw o.fits; running = taken_off_after e.dl_bw o.fits })))

pub sleep_balances : (e : Entity) (flags on_rq clock : ℕ) → SleepBalances e flags on_rq clock
unfolding dequeuing_of departing_of departing_change sleeping_of
sleep_balances e flags on_rq clock o d w s m =
    rw w (rw m (rw s (sleeps e o d (blocking_of (off_of e) clock))))
