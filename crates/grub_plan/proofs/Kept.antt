-- The timers after one more entry.
use Rattle.std.proofs.Common.{◌≡◌, ℕ, ◌<◌, Bool, true, false, cond, nat_eq, List, [], ◌∷◌, ◌++◌, Some, None, length, refl, sym, ap, ◌∙◌, subst, arith}
use Rattle.std.specs.Ordering.{nat_cmp}
use Rattle.std.specs.FinMap as map
use Rattle.std.proofs.lemmas.Bool.{eqb-true}
use Rattle.std.proofs.lemmas.List.Sums.{fold_push}
use Rattle.grub_book.specs.Machine.{Machine}
use Rattle.grub_book.specs.declared.op.Op.{Op}
use Rattle.grub_book.specs.declared.event.Reading.{Reading}
use Rattle.grub_wheel.specs.TimerBag.{TimerBag}
use Rattle.grub_plan.specs.declared.entry.Ask.TheVariants.{Call, Read}
use Rattle.grub_plan.specs.declared.entry.Answer.{Answer}
use Rattle.grub_plan.specs.declared.entry.Answer.TheVariants.{Seen}
use Rattle.grub_plan.specs.declared.entry.Entry.{Entry}
use Rattle.grub_plan.specs.Asked.{entry}
use Rattle.grub_plan.specs.Timers.{Alarm, armed, touch, touch_of_call}
use Rattle.grub_plan.specs.inside.Touches.{alarm_after, leaves}
use Rattle.grub_plan.specs.Keeping.{IsTouched}
use Rattle.grub_plan.specs.inside.Keeping.{IsKept}

pub armed-more : (t : ℕ) (es : List Entry) (e : Entry) → armed (es ++ e ∷ []) t ≡ alarm_after (touch t e.ask e.answer) (armed es t)
armed-more t es e = fold_push (λ alarm e. alarm_after (touch t e.ask e.answer) alarm) None es e

-- the wheel after a call on task t
pub kept_call : (s : Machine) (m t : ℕ) (op : Op) (answer : Answer) (old new : List Entry) (timers then : TimerBag) → IsKept s old timers → t < length s.tasks → new ≡ old ++ entry m (Call t op) answer ∷ []
    → IsTouched timers then t (touch_of_call op answer) → IsKept s new then
kept_call s m t op answer old new timers then kept there list touched = record {
  armed_are = λ u. touched u ∙ ap (alarm_after (touch u (Call t op) answer)) (kept.armed_are u) ∙ sym (ap (λ es. armed es u) list ∙ armed-more u old (entry m (Call t op) answer));
  tasks = λ u a at. go u a (nat_eq u t) refl (sym (ap (λ es. armed es u) list ∙ armed-more u old (entry m (Call t op) answer)) ∙ at);
}
  where
    go : (u : ℕ) (a : Alarm) (b : Bool) → nat_eq u t ≡ b → alarm_after (touch u (Call t op) answer) (armed old u) ≡ Some a → u < length s.tasks
    go u a true is at = let same : u ≡ t = eqb-true u t is in omega (arith, same, there)
    go u a false is at = kept.tasks u a (subst (λ b. alarm_after (cond b (touch_of_call op answer) leaves) (armed old u) ≡ Some a) is at)

-- the wheel after a reading
pub kept_look : (s : Machine) (m : ℕ) (reading : Reading) (old new : List Entry) (timers : TimerBag) → IsKept s old timers → new ≡ old ++ entry m Read (Seen reading) ∷ [] → IsKept s new timers
kept_look s m reading old new timers kept list = record {
  armed_are = λ u. kept.armed_are u ∙ sym (ap (λ es. armed es u) list ∙ armed-more u old (entry m Read (Seen reading)));
  tasks = λ u a at. kept.tasks u a (sym (ap (λ es. armed es u) list ∙ armed-more u old (entry m Read (Seen reading))) ∙ at);
}

-- a wheel with no timer, before the first entry
pub kept_nothing : (s : Machine) (es : List Entry) (timers : TimerBag) → es ≡ [] → timers ≡ map.empty → IsKept s es timers
kept_nothing s es timers none empty = record {
  armed_are = λ t. ap (λ m. map.get m t) empty ∙ map.get-empty nat_cmp t ∙ sym (ap (λ l. armed l t) none);
  tasks = λ t a at. let bad : None ≡ Some a = sym (ap (λ l. armed l t) none) ∙ at in absurd (cc);
}
