-- The timers of a worker, as its entries tell of them.
use Rattle.std.proofs.Common.{◌≡◌, ℕ, zero, suc, ◌+◌, ◌<◌, ◌≤◌, Bool, true, false, cond, nat_eq, List, Option, Some, None, refl, sym, ap, ◌∙◌, ◌-◌, subst, arith, eq-eqb}
use Rattle.std.specs.Prelude.{is_some, IsTrue, IsSomeAnd, IfSome}
use mathlib.Core.Logic.{dite}
use native.Mathlib.Decide.{ℕ_discrete}
use Rattle.std.specs.Bool.{OnTrue}
use Rattle.std.specs.Ordering.{nat_cmp, eq_by_cmp}
use Rattle.std.specs.FinMap as map
use Rattle.std.proofs.lemmas.Bool.Decides.{nat_tests}
use Rattle.std.proofs.lemmas.Cmp.{nat_cmp_total}
use Rattle.grub_wheel.specs.declared.timer.Timer.{Timer as WheelTimer}
use Rattle.grub_wheel.specs.TimerBag.{TimerBag, WheelState, IsArmed, IsArmedWith, IsLeast, AreLater, after_arming, after_taking}
use Rattle.grub_book.specs.declared.op.Op.{Op}
use Rattle.grub_book.specs.declared.op.Op.TheVariants as ops
use Rattle.grub_book.specs.declared.reply.Reply.TheVariants as replies
use Rattle.grub_plan.specs.declared.entry.Answer.TheVariants as answers
use Rattle.grub_plan.specs.declared.entry.Entry.{Entry}
use Rattle.grub_plan.specs.Timers.{Alarm, armed, touch_of_call, IsNextDue, NoneDue}
use Rattle.grub_plan.specs.inside.Touches.{leaves, disarms, arms, alarm_after}
use Rattle.grub_plan.specs.Keeping.{IsBlock, IsBlockBefore, IsTouched, places_of}

key_eq : (u t : ℕ) → eq_by_cmp nat_cmp u t ≡ nat_eq u t
key_eq u t = grind (arith, nat_tests)

touched_none : (b : Bool) (o : Option Alarm) → cond b None o ≡ alarm_after (cond b disarms leaves) o
touched_none true o = refl
touched_none false o = refl

touched_some : (b : Bool) (new : Alarm) (o : Option Alarm) → cond b (Some new) o ≡ alarm_after (cond b (arms new) leaves) o
touched_some true new o = refl
touched_some false new o = refl

-- a timer was taken out
pub touched_removed : (old new : TimerBag) (t : ℕ) → new ≡ map.remove old t → IsTouched old new t disarms
touched_removed old new t is u =
    ap (λ m. map.get m u) is
    ∙ (map.get-remove nat_cmp_total old t u ∙ ap (λ b. cond b None (map.get old u)) (key_eq u t))
    ∙ touched_none (nat_eq u t) (map.get old u)

pub removed_none : (old new : TimerBag) (t : ℕ) → new ≡ map.remove old t → map.get new t ≡ None
removed_none old new t is = ap (λ m. map.get m t) is ∙ map.get-remove nat_cmp_total old t t ∙ ap (λ b. cond b None (map.get old t)) (key_eq t t ∙ eq-eqb t t refl)

none_both : (b : Bool) (o : Option (ℕ × ℕ)) → o ≡ None → cond b None o ≡ None
none_both true o is = refl
none_both false o is = is

both_touched : (b : Bool) (a : Option Alarm) (new : Alarm) → alarm_after (cond b (arms new) leaves) (alarm_after (cond b disarms leaves) a) ≡ alarm_after (cond b (arms new) leaves) a
both_touched true a new = refl
both_touched false a new = refl

-- a timer was armed in place of another
pub touched_armed : (old between new : TimerBag) (t z k : ℕ) → IsTouched old between t disarms → new ≡ map.insert between t (z, k) → IsTouched old new t (arms (z, k))
touched_armed old between new t z k before is u =
    ap (λ m. map.get m u) is
    ∙ (map.get-insert nat_cmp_total between t (z, k) u ∙ ap (λ b. cond b (Some (z, k)) (map.get between u)) (key_eq u t))
    ∙ touched_some (nat_eq u t) (z, k) (map.get between u)
    ∙ ap (alarm_after (cond (nat_eq u t) (arms (z, k)) leaves)) (before u)
    ∙ both_touched (nat_eq u t) (map.get old u) (z, k)

-- `cancel` took out a timer that was armed with its ticket
pub cancelled : (old new : WheelState) (x : WheelTimer) (t : ℕ) (answer : Bool) → IsArmed old.timers x → x.t ≡ t → (IsArmedWith old.timers t x.ticket → IsTrue answer) → OnTrue answer (new ≡ after_taking old t) → new ≡ after_taking old t
cancelled old new x t answer armed is if_armed taken =
    let at : map.get old.timers t ≡ Some (x.z, x.ticket) = subst (λ u. map.get old.timers u ≡ Some (x.z, x.ticket)) is armed in
    let same : IsArmedWith old.timers t x.ticket = subst (λ (o : Option (ℕ × ℕ)). IsSomeAnd o (λ p. p.1 ≡ x.ticket)) (sym at) refl in
    go answer (if_armed same) taken
  where
    go : (b : Bool) → IsTrue b → OnTrue b (new ≡ after_taking old t) → new ≡ after_taking old t
    go true on f = f
    go false on f = absurd (cc)

-- ---- a block that waits
pub later_than : (last : Option ℕ) (z : ℕ) → ((m : ℕ) → last ≡ Some m → m < z) → IfSome last (λ m. m < z)
later_than None z f = tt
later_than (Some m) z f = f m refl

pub touch_waits : (op : Op) (z ticket : ℕ) → IsBlockBefore z op → touch_of_call op (answers.Replied (replies.Waiting ticket z)) ≡ arms (z, ticket)
touch_waits (ops.Block r m) z ticket h = refl
touch_waits op z ticket h = absurd h

pub is_block : (op : Op) (z : ℕ) → IsBlockBefore z op → IsBlock op
is_block (ops.Block r m) z h = tt
is_block op z h = absurd h

-- ---- timers that are due
pub len_some : (timers : TimerBag) (t : ℕ) (p : ℕ × ℕ) → map.get timers t ≡ Some p → 1 ≤ map.len timers
len_some timers t p at = dite (ℕ_discrete (map.len timers) 0)
    (λ none. let empty : map.get timers t ≡ None = ap (λ m. map.get m t) (map.empty_of_len timers none) ∙ map.get-empty nat_cmp t in absurd (cc))
    (λ some. omega (arith, some))

-- a wheel has one timer less where one was taken out
pub len_taken : (old new : TimerBag) (x : WheelTimer) → IsArmed old x → new ≡ map.remove old x.t → map.len new < map.len old
len_taken old new x armed is =
    let some = len_some old x.t (x.z, x.ticket) armed in
    let less : map.len new ≡ map.len old - 1 = ap map.len is ∙ map.len-remove nat_cmp_total old x.t ∙ ap (λ (o : Option (ℕ × ℕ)). cond (is_some o) (map.len old - 1) (map.len old)) armed in
    omega (arith, less, some)

-- ---- places
places_taken : (old new : WheelState) (x : WheelTimer) → IsArmed old.timers x → new ≡ after_taking old x.t → places_of new ≡ places_of old
places_taken old new x armed is =
    let some = len_some old.timers x.t (x.z, x.ticket) armed in
    let less : map.len new.timers ≡ map.len old.timers - 1 =
    ap (λ (w : WheelState). map.len w.timers) is ∙ map.len-remove nat_cmp_total old.timers x.t ∙ ap (λ (o : Option (ℕ × ℕ)). cond (is_some o) (map.len old.timers - 1) (map.len old.timers)) armed in
    let more : new.spare ≡ old.spare + 1 = ap (λ (w : WheelState). w.spare) is in
    omega (arith, less, some, more)

pub places_disarmed : (old new : WheelState) (x : WheelTimer) (t : ℕ) → IsArmed old.timers x → x.t ≡ t → new ≡ after_taking old t → places_of new ≡ places_of old
places_disarmed old new x t armed same is = places_taken old new x armed (is ∙ ap (after_taking old) (sym same))

pub places_armed : (old new : WheelState) (x : WheelTimer) → 1 ≤ old.spare → map.get old.timers x.t ≡ None → new ≡ after_arming old x → places_of new ≡ places_of old
places_armed old new x some free is =
    let more : map.len new.timers ≡ map.len old.timers + 1 =
    ap (λ (w : WheelState). map.len w.timers) is ∙ map.len-insert nat_cmp_total old.timers x.t (x.z, x.ticket) ∙ ap (λ (o : Option (ℕ × ℕ)). cond (is_some o) (map.len old.timers) (map.len old.timers + 1)) free in
    let less : new.spare ≡ old.spare - 1 = ap (λ (w : WheelState). w.spare) is in
    omega (arith, less, some, more)

pub places_due : (old new : WheelState) (last : Option ℕ) (x : WheelTimer) → IsArmed old.timers x → new ≡ record (after_taking old x.t) { last = last } → places_of new ≡ places_of old
places_due old new last x armed is = ap (λ (w : WheelState). places_of w) is ∙ places_taken old (after_taking old x.t) x armed refl

-- where only the first n tasks have a timer, there are at most n
pub few_timers : (n : ℕ) (timers : TimerBag) → ((t : ℕ) → n ≤ t → map.get timers t ≡ None) → map.len timers ≤ n
few_timers zero timers none =
    let empty : timers ≡ map.empty = map.same_map nat_cmp_total map.nat_cmp-IsAntisymmetric timers map.empty (λ t. none t (omega arith) ∙ sym (map.get-empty nat_cmp t)) in
    let all : map.len timers ≡ 0 = ap map.len empty ∙ map.len-empty nat_cmp (ℕ × ℕ) in
    omega (arith, all)
few_timers (suc n) timers none =
    let less = few_timers n (map.remove timers n) (λ t at. map.get-remove nat_cmp_total timers n t ∙ gone t at (ℕ_discrete t n)) in
    let count = map.len-remove nat_cmp_total timers n in
    at (is_some (map.get timers n)) (map.len timers) (map.len (map.remove timers n)) count less
  where
    gone : (t : ℕ) → n ≤ t → Dec (t ≡ n) → cond (eq_by_cmp nat_cmp t n) None (map.get timers t) ≡ None
    gone t at d = dite d
        (λ same. ap (λ b. cond b None (map.get timers t)) (key_eq t n ∙ eq-eqb t n same))
        (λ other. none_both (eq_by_cmp nat_cmp t n) (map.get timers t) (none t (omega (arith, at, other))))

    at : (b : Bool) (k l : ℕ) → l ≡ cond b (k - 1) k → l ≤ n → k ≤ suc n
    at true k l is low = omega (arith, is, low)
    at false k l is low = omega (arith, is, low)

-- the timer that `due` took out is the next one that the entries leave
pub next_due : (timers : TimerBag) (entries : List Entry) (m : ℕ) (x : WheelTimer) → ((t : ℕ) → map.get timers t ≡ armed entries t) → IsArmed timers x → x.z ≤ m → IsLeast timers x → IsNextDue (armed entries) m x
next_due timers entries m x same at due least = record {
  armed = sym (same x.t) ∙ at;
  due = due;
  least = λ y there low. least y (same y.t ∙ there);
}

pub none_due : (timers : TimerBag) (entries : List Entry) (m : ℕ) → ((t : ℕ) → map.get timers t ≡ armed entries t) → AreLater timers m → NoneDue (armed entries) m
none_due timers entries m same later x there = later x (same x.t ∙ there)
