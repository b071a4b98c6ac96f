use Rattle.std.proofs.Common.{◌≡◌, ℕ, ◌<◌, Bool, true, false, cond, not, ◌&&◌, List, length, Option, Some, None, Ok, refl, ap, ◌∙◌, sym, arith, subst}
use Rattle.std.specs.Prelude.{is_none, is_some, min}
use Rattle.std.proofs.lemmas.Bool.{and_left, and_right, lt-ltb}
use Rattle.grub_book.specs.Bandwidth.{Reservation, reservation_fits}
use Rattle.grub_trace.specs.declared.fault.Kind.{Kind}
use Rattle.grub_trace.specs.declared.fault.Kind.TheVariants.{BadNumber, DuplicateTask}
use Rattle.grub_trace.specs.Forms.{is_number, reservation_value}
use Rattle.text_bytes.specs.Digits.{value}
use Rattle.grub_trace.specs.Naming.{task_of}
use Rattle.grub_trace.specs.Tree.{names_of}
use Rattle.grub_trace.specs.inside.Reading.{IsNumberOf, declarations, ok_unless, task_fault}
use Rattle.grub_trace.proofs.LimitTests.{reservation_is}
use Rattle.grub_trace.proofs.TaskLemmas.{length-names}
use Rattle.grub_trace.proofs.tasks.declared_params.Goals.{in_default-via-in-Some+in_default, in_default-via-in_default}
use Rattle.grub_trace.proofs.tasks.declared_params.Goals as goal

-- a word that is no number
unspelled : (names : List (List ℕ)) (n q p : List ℕ) → (is_number q && is_number p) ≡ false → task_fault names n q p ≡ Some BadNumber
unspelled names n q p h = rw h refl

-- a reservation is within the limits only if its numbers were not cut
uncut : (q p : List ℕ) (r d : ℕ) → r ≡ min (value q) 4294967295 → d ≡ min (value p) 4294967295 → reservation_fits (record { runtime = r; period = d }) ≡ true → ◌≡◌ {A = Reservation} (record { runtime = r; period = d }) (reservation_value q p)
uncut q p r d runtime period fits =
    let is = reservation_is (record { runtime = r; period = d }) fits in
    let a : r ≡ value q = omega arith in
    let b : d ≡ value p = omega arith in
    rw (a, b) refl

known_or_new : (known : Bool) (o : Option ℕ) → is_some o ≡ known → ◌≡◌ {A = Option Kind} (cond (not (is_none o)) (Some DuplicateTask) None) (cond known (Some DuplicateTask) None)
known_or_new known None e = rw (← e) refl
known_or_new known (Some t) e = rw (← e) refl

-- two numbers within their limits, and room
fits_or_known : (names : List (List ℕ)) (n q p : List ℕ) (known : Bool) → is_number q ≡ true → is_number p ≡ true → length names < 256 → reservation_fits (reservation_value q p) ≡ true → is_some (task_of names n) ≡ known
    → task_fault names n q p ≡ cond known (Some DuplicateTask) None
fits_or_known names n q p known runtime period room fits is = rw (runtime, period, lt-ltb (length names) 256 room, fits) (known_or_new known (task_of names n) is)

pub returns-in_default : goal.returns-in_default
returns-in_default c =
    let names = names_of (declarations c.args.tasks.now) in
    let q = c.args.runtime.now in
    let p = c.args.period.now in
    elim c.in_default.branch [
      | in_default-via-in-Some+in_default w ↦ sym (ap (λ o. ok_unless o (reservation_value q p)) (unspelled names c.args.name.now q p (and_right (is_number q) (is_number p) w.in_default.ensures')))
      | in_default-via-in_default w ↦ sym (ap (λ o. ok_unless o (reservation_value q p)) (unspelled names c.args.name.now q p (and_left (is_number q) (is_number p) (subst (λ o. IsNumberOf o q) w.in_default.is-0 c.number.ensures))))
    ]

pub returns-then-is_some : goal.returns-then-is_some
returns-then-is_some c =
    let names = names_of (declarations c.args.tasks.now) in
    let q = c.args.runtime.now in
    let p = c.args.period.now in
    let list = c.args.tasks.now.list in
    let same = uncut q p c.in-Some-Some.runtime c.in-Some-Some.period c.in-Some-Some.ensures.1 c.in-Some-Some.ensures'.1 (sym c.in-Some.ensures.exact) in
    let fault = fits_or_known names c.args.name.now q p true c.in-Some-Some.ensures.0 c.in-Some-Some.ensures'.0 (omega (arith, list.ok.0, length-names list.items)) (subst (λ x. reservation_fits x ≡ true) same (sym c.in-Some.ensures.exact)) (ap is_some (sym c.find-known.ensures) ∙ sym c.if-is_some.ensures) in
    sym (ap (λ o. ok_unless o (reservation_value q p)) fault)

pub returns : goal.returns
returns c =
    let names = names_of (declarations c.args.tasks.now) in
    let q = c.args.runtime.now in
    let p = c.args.period.now in
    let list = c.args.tasks.now.list in
    let same = uncut q p c.in-Some-Some.runtime c.in-Some-Some.period c.in-Some-Some.ensures.1 c.in-Some-Some.ensures'.1 (sym c.in-Some.ensures.exact) in
    let fault = fits_or_known names c.args.name.now q p false c.in-Some-Some.ensures.0 c.in-Some-Some.ensures'.0 (omega (arith, list.ok.0, length-names list.items)) (subst (λ x. reservation_fits x ≡ true) same (sym c.in-Some.ensures.exact)) (ap is_some (sym c.find-known.ensures) ∙ sym c.if-is_some.ensures) in
    ap Ok (c.in-Some.ensures.value ∙ same) ∙ sym (ap (λ o. ok_unless o (reservation_value q p)) fault)
