-- Only a block waits.
use Rattle.std.proofs.Common.{◌≡◌, ℕ, ◌+◌, ◌<◌, ◌&&◌, nat_lt, Bool, true, false, cond, Option, Some, None, refl, ap, subst}
use Rattle.std.proofs.lemmas.Bool.{ltb-true}
use Rattle.grub_book.specs.Bandwidth.{Reservation, Capacity, bandwidth_of}
use Rattle.grub_book.specs.Server.{charge_of, depleted_of}
use Rattle.grub_book.specs.declared.server.Server.{Server}
use Rattle.grub_book.specs.Machine.{Machine, queue_at}
use Rattle.grub_book.specs.Sums.{Records, record_at, reading_of}
use Rattle.grub_book.specs.Step.{is_inactive, is_under_claim, refused, runqueue_of, settled, arrived, charged, lag_moment, step}
use Rattle.grub_book.specs.inside.Steps.{replied}
use Rattle.grub_book.specs.declared.place.State.TheVariants.{NonContending, Inactive}
use Rattle.grub_book.specs.declared.place.Place.TheVariants.{On}
use Rattle.grub_book.specs.declared.place.Record.{Record}
use Rattle.grub_book.specs.declared.event.Reading.{Reading}
use Rattle.grub_book.specs.declared.op.Op.{Op}
use Rattle.grub_book.specs.declared.op.Op.TheVariants.{Join, Wake, Block, Leave, Timer, Exit, Charge, Retune}
use Rattle.grub_book.specs.declared.reply.Reply.{Reply}
use Rattle.grub_book.specs.declared.reply.Reply.TheVariants.{Joined, Waiting, Asleep, Retired, Retuned, Full}
use Rattle.grub_book.proofs.Cases.{of_timer}
use Rattle.grub_book.proofs.Claims.{refused_outside}
use Rattle.grub_plan.specs.Keeping.{IsBlockBefore}

-- of two replies at most the first waits
first_only : {P : Type 0} (b : Bool) (x y : Record × Reply) (ticket z : ℕ) → (b ≡ true → x.1 ≡ Waiting ticket z → P) → (y.1 ≡ Waiting ticket z → P) → (cond b x y).1 ≡ Waiting ticket z → P
first_only true x y ticket z f g is = f refl is
first_only false x y ticket z f g is = g is

charged_none : {P : Type 0} (x : Record) (dq : ℕ) (o : Option (ℕ × Server)) (ticket z : ℕ) → (charged x dq o).1 ≡ Waiting ticket z → P
charged_none x dq None ticket z is = absurd (cc)
charged_none x dq (Some (k, t)) ticket z is = absurd (cc)

waits_settled : (queue : Capacity) (now : Reading) (x : Record) (op : Op) (ticket z : ℕ) → (settled x queue now op).1 ≡ Waiting ticket z → IsBlockBefore z op
waits_settled queue now x (Join r m) ticket z is =
    let y = arrived x r m in
    first_only (nat_lt queue.most (now.this + bandwidth_of x.params)) (x, Full) (y, Joined y.server.q y.server.d) ticket z (λ _ e. absurd (cc)) (λ e. absurd (cc)) is
waits_settled queue now x (Wake r m) ticket z is = absurd (cc)
waits_settled queue now x (Block r m) ticket z is =
    let waits : Record = record x { place = On r NonContending; count = x.count + 1 } in
    let sleeps : Record = record x { place = On r Inactive } in
    first_only (nat_lt m (lag_moment x)) (waits, Waiting (x.count + 1) (lag_moment x)) (sleeps, Asleep) ticket z
    (λ before e. let same : lag_moment x ≡ z = cc in subst (λ k. m < k) same (ltb-true m (lag_moment x) before)) (λ e. absurd (cc)) is
waits_settled queue now x Leave ticket z is = absurd (cc)
waits_settled queue now x (Timer k m) ticket z is =
    let retires : Record = record x { place = On (runqueue_of x.place (Timer k m)) Inactive } in
    of_timer (λ (p : Record × Reply). p.1 ≡ Waiting ticket z → IsBlockBefore z (Timer k m)) (nat_lt m (lag_moment x)) x (lag_moment x) (retires, Retired) (λ e. absurd (cc)) (λ e. absurd (cc)) is
waits_settled queue now x Exit ticket z is = absurd (cc)
waits_settled queue now x (Retune q p) ticket z is =
    let params : Reservation = record { runtime = q; period = p } in
    first_only (is_inactive x.place && nat_lt (queue.most + bandwidth_of x.params) (now.this + bandwidth_of params)) (x, Full) (record x { params = params; server = record { q = q; d = 0 } }, Retuned) ticket z (λ _ e. absurd (cc)) (λ e. absurd (cc)) is
waits_settled queue now x (Charge r dt) ticket z is =
    let dq = charge_of dt (bandwidth_of x.params) queue now.running now.this in
    charged_none x dq (depleted_of x.server x.params dq) ticket z is

waits_replied : (book : Records) (t : ℕ) (op : Op) (o : Option Reply) (m : Record × Reply) (ticket z : ℕ) → ((reply : Reply) → o ≡ Some reply → is_under_claim reply ≡ false) → (m.1 ≡ Waiting ticket z → IsBlockBefore z op) → (replied book t o m).1 ≡ Waiting ticket z → IsBlockBefore z op
waits_replied book t op (Some reply) m ticket z outside f is = let off = outside reply refl in let on : is_under_claim reply ≡ true = ap is_under_claim is in absurd (cc)
waits_replied book t op None m ticket z outside f is = f is

-- a step that is answered Waiting is a block before that moment
pub waits_step : (s : Machine) (book : Records) (t : ℕ) (op : Op) (ticket z : ℕ) → (step s book t op).1 ≡ Waiting ticket z → IsBlockBefore z op
waits_step s book t op ticket z is =
    let x = record_at book t in
    let r = runqueue_of x.place op in
    waits_replied book t op (refused x.place x.count op) (settled x (queue_at s r) (reading_of book r) op) ticket z (refused_outside x.place x.count op) (waits_settled (queue_at s r) (reading_of book r) x op ticket z) is
