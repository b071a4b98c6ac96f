-- The runqueues that armed the timers, after one more entry.
use Rattle.std.proofs.Common.{◌≡◌, ℕ, ◌<◌, Bool, true, false, cond, nat_eq, List, [], ◌∷◌, ◌++◌, length, get_or, set, refl, sym, ap, ◌∙◌, subst, arith, eq-eqb, ne_eqb, get_or-set_other}
use Rattle.std.proofs.lemmas.List.{get_or-set_same, length-set}
use mathlib.Core.Logic.{dite}
use native.Mathlib.Decide.{ℕ_discrete}
use Rattle.grub_book.specs.Machine.{Machine}
use Rattle.grub_book.specs.declared.op.Op.{Op}
use Rattle.grub_book.specs.declared.op.Op.TheVariants as ops
use Rattle.grub_book.specs.declared.reply.Reply.TheVariants.{Waiting}
use Rattle.grub_plan.specs.declared.entry.Ask.TheVariants.{Call, Read}
use Rattle.grub_plan.specs.declared.entry.Answer.{Answer}
use Rattle.grub_plan.specs.declared.entry.Answer.TheVariants.{Replied}
use Rattle.grub_plan.specs.declared.entry.Entry.{Entry}
use Rattle.grub_plan.specs.Asked.{entry}
use Rattle.grub_plan.specs.Keeping.{WaitsRightly}
use Rattle.grub_timeline.specs.TimeLines.{armer, armer_after, armer_from}
use Rattle.grub_timeline.specs.inside.Playing.{AreArmers, IsOfBlock, waits_of}

armer_from-more : (t r : ℕ) (es : List Entry) (e : Entry) → armer_from t r (es ++ e ∷ []) ≡ armer_after t (armer_from t r es) e.ask e.answer
armer_from-more t r [] e = refl
armer_from-more t r (x ∷ es) e = armer_from-more t (armer_after t r x.ask x.answer) es e

pub armer-more : (t : ℕ) (es : List Entry) (e : Entry) → armer (es ++ e ∷ []) t ≡ armer_after t (armer es t) e.ask e.answer
armer-more t es e = armer_from-more t 0 es e

-- what an entry leaves as it was
same_armers : (s : Machine) (e : Entry) (old new : List Entry) (armers : List ℕ) → AreArmers s old armers → new ≡ old ++ e ∷ [] → ((t r : ℕ) → armer_after t r e.ask e.answer ≡ r) → AreArmers s new armers
same_armers s e old new armers was list same = record {
  one_each = was.one_each;
  each = λ t d low. was.each t d low ∙ sym (at t);
  there = λ t. subst (λ r. r < length s.queues) (sym (at t)) (was.there t);
}
  where
    at : (t : ℕ) → armer new t ≡ armer old t
    at t = ap (λ es. armer es t) list ∙ armer-more t old e ∙ same t (armer old t)

-- a block that waits
waits_armers : (s : Machine) (m t q k ticket z : ℕ) (old new : List Entry) (armers : List ℕ) → AreArmers s old armers → t < length s.tasks → q < length s.queues → new ≡ old ++ entry m (Call t (ops.Block q k)) (Replied (Waiting ticket z)) ∷ []
    → AreArmers s new (set armers t q)
waits_armers s m t q k ticket z old new armers was low queue list = record {
  one_each = length-set armers t q ∙ was.one_each;
  each = λ u d lower. dite (ℕ_discrete u t)
      (λ same. let many = was.one_each in
      subst (λ v. get_or (set armers t q) v d ≡ armer new v) (sym same) (get_or-set_same armers t q d (omega (arith, many, low)) ∙ sym (at t ∙ ap (λ b. cond b q (armer old t)) (eq-eqb t t refl))))
      (λ other. get_or-set_other armers t u q d other ∙ was.each u d lower ∙ sym (at u ∙ ap (λ b. cond b q (armer old u)) (ne_eqb u t other)));
  there = λ u. go u (nat_eq u t) (sym (at u));
}
  where
    at : (u : ℕ) → armer new u ≡ cond (nat_eq u t) q (armer old u)
    at u = ap (λ es. armer es u) list ∙ armer-more u old (entry m (Call t (ops.Block q k)) (Replied (Waiting ticket z)))

    go : (u : ℕ) (b : Bool) → cond b q (armer old u) ≡ armer new u → armer new u < length s.queues
    go u true is = subst (λ r. r < length s.queues) is queue
    go u false is = subst (λ r. r < length s.queues) is (was.there u)

-- a line's call
pub armers_call : (s : Machine) (r m t : ℕ) (op : Op) (answer : Answer) (old new : List Entry) (armers : List ℕ) → AreArmers s old armers → t < length s.tasks → r < length s.queues → IsOfBlock r op → WaitsRightly op answer
    → new ≡ old ++ entry m (Call t op) answer ∷ [] → AreArmers s new (waits_of armers t r answer)
armers_call s r m t (ops.Block q k) (Replied (Waiting ticket z)) old new armers was low queue block waits list =
    subst (λ p. AreArmers s new (set armers t p)) block (waits_armers s m t q k ticket z old new armers was low (subst (λ p. p < length s.queues) (sym block) queue) list)
armers_call s r m t op (Replied (Waiting ticket z)) old new armers was low queue block waits list = absurd (waits ticket z refl)
armers_call s r m t (ops.Block q k) answer old new armers was low queue block waits list = same_armers s (entry m (Call t (ops.Block q k)) answer) old new armers was list (λ u p. refl)
armers_call s r m t op answer old new armers was low queue block waits list = same_armers s (entry m (Call t op) answer) old new armers was list (λ u p. refl)

-- a timer
pub armers_timer : (s : Machine) (m t ticket z : ℕ) (answer : Answer) (old new : List Entry) (armers : List ℕ) → AreArmers s old armers → new ≡ old ++ entry m (Call t (ops.Timer ticket z)) answer ∷ [] → AreArmers s new armers
armers_timer s m t ticket z answer old new armers was list = same_armers s (entry m (Call t (ops.Timer ticket z)) answer) old new armers was list (λ u p. refl)

-- a reading
pub armers_look : (s : Machine) (m : ℕ) (answer : Answer) (old new : List Entry) (armers : List ℕ) → AreArmers s old armers → new ≡ old ++ entry m Read answer ∷ [] → AreArmers s new armers
armers_look s m answer old new armers was list = same_armers s (entry m Read answer) old new armers was list (λ u p. refl)
