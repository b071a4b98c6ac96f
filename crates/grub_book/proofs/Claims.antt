-- Which replies a call gives under a claim.
use Rattle.std.proofs.Common.{◌≡◌, ℕ, ◌+◌, ◌==◌, ◌&&◌, nat_lt, true, false, Option, Some, None, refl}
use Rattle.grub_book.specs.Bandwidth.{Reservation, Capacity, bandwidth_of}
use Rattle.grub_book.specs.Server.{charge_of, depleted_of}
use Rattle.grub_book.specs.declared.server.Server.{Server}
use Rattle.grub_book.specs.Machine.{Machine, queue_at}
use Rattle.grub_book.specs.Sums.{Records, record_at, reading_of}
use Rattle.grub_book.specs.declared.rules.TheConstants.{COUNT_MAX}
use Rattle.grub_book.specs.Step.{is_inactive, is_under_claim, refused, refused_on, refused_wake, refused_block, refused_charge, runqueue_of, settled, arrived, charged, lag_moment, step}
use Rattle.grub_book.specs.inside.Steps.{replied}
use Rattle.grub_book.specs.declared.place.State.{State}
use Rattle.grub_book.specs.declared.place.State.TheVariants.{Contending, NonContending, Inactive}
use Rattle.grub_book.specs.declared.place.Place.{Place}
use Rattle.grub_book.specs.declared.place.Place.TheVariants.{Away, Gone, On}
use Rattle.grub_book.specs.declared.place.Record.{Record}
use Rattle.grub_book.specs.declared.event.Reading.{Reading}
use Rattle.grub_book.specs.declared.op.Op.{Op}
use Rattle.grub_book.specs.declared.op.Op.TheVariants.{Join, Wake, Block, Leave, Timer, Exit, Charge, Retune}
use Rattle.grub_book.specs.declared.reply.Reply.{Reply}
use Rattle.grub_book.specs.declared.reply.Reply.TheVariants.{Joined, Waiting, Asleep, Retired, Retuned, Elsewhere, Worn, Stale, Full}
use Rattle.grub_book.proofs.Cases.{of_either, of_timer}
use Rattle.grub_book.proofs.Soundness.{moved}

-- it gives no reply that is given under a claim
abbrev pub IsOutside : Option Reply → Type 0
IsOutside o = (reply : Reply) → o ≡ Some reply → is_under_claim reply ≡ false

outside : (answer : Reply) → is_under_claim answer ≡ false → IsOutside (Some answer)
outside answer is reply e = let same : answer ≡ reply = cc in rw (← same) is

undecided : IsOutside None
undecided = λ reply e. absurd cc

outside_on : (r : ℕ) (place : Place) (by_state : State → Option Reply) → ((state : State) → IsOutside (by_state state)) → IsOutside (refused_on r place by_state)
outside_on r Away by_state h = outside _ refl
outside_on r Gone by_state h = outside _ refl
outside_on r (On s state) by_state h = of_either IsOutside (s == r) (by_state state) (Some (Elsewhere s)) (h state) (outside (Elsewhere s) refl)

outside_wake : (state : State) → IsOutside (refused_wake state)
outside_wake Contending = outside _ refl
outside_wake NonContending = undecided
outside_wake Inactive = undecided

outside_block : (count : ℕ) (state : State) → IsOutside (refused_block count state)
outside_block count Contending = of_either IsOutside (count == COUNT_MAX) (Some Worn) None (outside Worn refl) undecided
outside_block count NonContending = outside _ refl
outside_block count Inactive = outside _ refl

outside_charge : (state : State) → IsOutside (refused_charge state)
outside_charge Contending = undecided
outside_charge NonContending = outside _ refl
outside_charge Inactive = outside _ refl

-- what the place, the count or the ticket alone decides is decided without a claim
pub refused_outside : (place : Place) (count : ℕ) (op : Op) → IsOutside (refused place count op)
refused_outside Away count (Join r m) = undecided
refused_outside Gone count (Join r m) = outside _ refl
refused_outside (On s state) count (Join r m) = outside _ refl
refused_outside place count (Wake r m) = outside_on r place refused_wake outside_wake
refused_outside place count (Block r m) = outside_on r place (refused_block count) (outside_block count)
refused_outside place count (Charge r dt) = outside_on r place refused_charge outside_charge
refused_outside Gone count Leave = outside _ refl
refused_outside Away count Leave = outside _ refl
refused_outside (On s Contending) count Leave = outside _ refl
refused_outside (On s NonContending) count Leave = undecided
refused_outside (On s Inactive) count Leave = undecided
refused_outside Away count (Timer ticket m) = outside _ refl
refused_outside Gone count (Timer ticket m) = outside _ refl
refused_outside (On s Contending) count (Timer ticket m) = outside _ refl
refused_outside (On s NonContending) count (Timer ticket m) = of_either IsOutside (count == ticket) None (Some Stale) undecided (outside Stale refl)
refused_outside (On s Inactive) count (Timer ticket m) = outside _ refl
refused_outside Gone count (Retune q p) = outside _ refl
refused_outside Away count (Retune q p) = undecided
refused_outside (On s Contending) count (Retune q p) = outside _ refl
refused_outside (On s NonContending) count (Retune q p) = outside _ refl
refused_outside (On s Inactive) count (Retune q p) = undecided
refused_outside Gone count Exit = outside _ refl
refused_outside Away count Exit = undecided
refused_outside (On s Contending) count Exit = outside _ refl
refused_outside (On s NonContending) count Exit = outside _ refl
refused_outside (On s Inactive) count Exit = undecided

under_charged : (x : Record) (dq : ℕ) (o : Option (ℕ × Server)) → is_under_claim (charged x dq o).1 ≡ true
under_charged x dq None = refl
under_charged x dq (Some (k, t)) = refl

-- what settling decides is decided under a claim
pub settled_under : (queue : Capacity) (now : Reading) (x : Record) (op : Op) → is_under_claim (settled x queue now op).1 ≡ true
settled_under queue now x (Join r m) =
    let y = arrived x r m in
    of_either (λ (m : Record × Reply). is_under_claim m.1 ≡ true) (nat_lt queue.most (now.this + bandwidth_of x.params)) (x, Full) (y, Joined y.server.q y.server.d) refl refl
settled_under queue now x (Wake r m) = refl
settled_under queue now x (Block r m) =
    let waits : Record = record x { place = On r NonContending; count = x.count + 1 } in
    let sleeps : Record = record x { place = On r Inactive } in
    of_either (λ (m : Record × Reply). is_under_claim m.1 ≡ true) (nat_lt m (lag_moment x)) (waits, Waiting (x.count + 1) (lag_moment x)) (sleeps, Asleep) refl refl
settled_under queue now x Leave = refl
settled_under queue now x (Timer ticket m) =
    let retires : Record = record x { place = On (runqueue_of x.place (Timer ticket m)) Inactive } in
    of_timer (λ (m : Record × Reply). is_under_claim m.1 ≡ true) (nat_lt m (lag_moment x)) x (lag_moment x) (retires, Retired) refl refl
settled_under queue now x Exit = refl
settled_under queue now x (Retune q p) =
    let params : Reservation = record { runtime = q; period = p } in
    of_either (λ (m : Record × Reply). is_under_claim m.1 ≡ true) (is_inactive x.place && nat_lt (queue.most + bandwidth_of x.params) (now.this + bandwidth_of params)) (x, Full) (record x { params = params; server = record { q = q; d = 0 } }, Retuned) refl refl
settled_under queue now x (Charge r dt) =
    let dq = charge_of dt (bandwidth_of x.params) queue now.running now.this in
    under_charged x dq (depleted_of x.server x.params dq)

replied_outside : (book : Records) (t : ℕ) (o : Option Reply) (m : Record × Reply) → is_under_claim m.1 ≡ true → is_under_claim (replied book t o m).1 ≡ false → (replied book t o m).0 ≡ book
replied_outside book t (Some reply) m under freely = refl
replied_outside book t None m under freely = absurd cc

-- a step whose reply is given without a claim leaves the book
pub outside_same : (s : Machine) (book : Records) (t : ℕ) (op : Op) → is_under_claim (step s book t op).1 ≡ false → (step s book t op).0 ≡ book
outside_same s book t op freely =
    let x = record_at book t in
    let r = runqueue_of x.place op in
    replied_outside book t (refused x.place x.count op) (moved s book t op) (settled_under (queue_at s r) (reading_of book r) x op) freely
