-- What another pass must have done where a task's record was found changed, or a reading.
use Rattle.std.proofs.Common.{◌≡◌, ◌≢◌, ◌⊎◌, ℕ, ◌+◌, ◌≤◌, cond, Bool, true, false, ◌==◌, ◌&&◌, List, [], ◌∷◌, fold, ◌++◌, refl, sym, ap, ◌∙◌, subst, ⊎_elim, inl, inr, arith, unwrap_or, eq-eqb, append_assoc, get_or-set_other, Option, Some, None}
use Rattle.std.specs.List.{All, Any}
use Rattle.std.proofs.lemmas.List.{append-nil, append_cancel_left}
use Rattle.std.proofs.lemmas.List.Elements.{All-weaker, All-head, All-tail}
use mathlib.Core.List.{IsPrefix}
use mathlib.Core.Logic.{dite}
use native.Mathlib.Decide.{ℕ_discrete}
use Rattle.grub_book.specs.Machine.{Machine}
use Rattle.grub_book.specs.Sums.{Records, record_at, reading_of, opening_book}
use Rattle.grub_book.specs.Step.{is_under_claim, refused, step}
use Rattle.grub_book.specs.inside.Steps.{replied}
use Rattle.grub_book.specs.History.{IsLegal, IsLegalFrom, HasChanged, after, book_of, calls_of, changes_from, is_reading, pass_of}
use Rattle.grub_book.specs.declared.reply.Reply.{Reply}
use Rattle.grub_book.specs.declared.place.Record.{Record}
use Rattle.grub_book.specs.declared.event.Reading.{Reading}
use Rattle.grub_book.specs.declared.event.Event.{Event}
use Rattle.grub_book.specs.declared.event.Event.TheVariants.{Call, Look}
use Rattle.grub_book.proofs.Histories.{legal_first, legal_rest, book_more, book_push, calls_append}
use Rattle.grub_book.proofs.Claims.{outside_same}
use Rattle.grub_table.specs.declared.view.Mark.{Mark}
use Rattle.grub_table.specs.declared.view.Mark.TheVariants.{Taken, Given}
use Rattle.grub_table.specs.Marks.{holder_after, holder_of}
use Rattle.grub_table.proofs.Marks.{given_else, given_here, taken_else, taken_here}
use Rattle.grub_workers.specs.inside.Evidence.{TakesElse, CallsElse}
use Rattle.grub_plan.proofs.Parts.{all_left, all_right}
use Rattle.grub_workers.proofs.Elements.{Somewhere, any_of, filter_none, somewhere_left, somewhere_right}

not_own : (i : ℕ) (e : Event) → (pass_of e == i) ≡ false → pass_of e ≢ i
not_own i e off is = let on : (pass_of e == i) ≡ true = eq-eqb (pass_of e) i is in absurd (cc)

-- where the calls of a pass stay, no later event is its own
pub others_only : (i : ℕ) (h more : List Event) → calls_of i (h ++ more) ≡ calls_of i h → All (λ e. pass_of e ≢ i) more
others_only i h more is = All-weaker (λ e. (pass_of e == i) ≡ false) (λ e. pass_of e ≢ i) (not_own i) more
    (filter_none (λ e. pass_of e == i) more (append_cancel_left (calls_of i h) (calls_of i more) [] (sym (calls_append i h more) ∙ is ∙ sym (append-nil (calls_of i h)))))

pub replied_else : (t : ℕ) (book : Records) (u : ℕ) → t ≢ u → (o : Option Reply) (m : Record × Reply) → record_at (replied book u o m).0 t ≡ record_at book t
replied_else t book u ne (Some reply) m = refl
replied_else t book u ne None m = get_or-set_other book u t m.0 _ ne

-- a task whose record became another was held by the maker of one of these events
moved : (s : Machine) (i t : ℕ) (book : Records) (es : List Event) → All (λ e. pass_of e ≢ i) es → IsLegalFrom s book es → record_at (fold (after s) book es) t ≢ record_at book t → Somewhere (CallsElse i t) es
moved s i t book [] o legal ne = absurd (ne refl)
moved s i t book (Look j q n ∷ es) o legal ne = inr (moved s i t book es (All-tail (λ e. pass_of e ≢ i) (Look j q n) es o) legal.1 ne)
moved s i t book (Call j u op reply ∷ es) o legal ne = dite (ℕ_discrete u t)
    (λ same. by_claim (λ n. moved s i t (after s book (Call j u op reply)) es rest legal.1 n) same (is_under_claim reply) refl)
    (λ other. inr (moved s i t (after s book (Call j u op reply)) es rest legal.1 (λ e. ne (e ∙ elsewhere other))))
  where
    rest : All (λ e. pass_of e ≢ i) es
    rest = All-tail (λ e. pass_of e ≢ i) (Call j u op reply) es o

    quiet : is_under_claim reply ≡ false → (step s book u op).0 ≡ book
    quiet off = outside_same s book u op (ap is_under_claim legal.0.2 ∙ off)

    by_claim : (record_at (fold (after s) book (Call j u op reply ∷ es)) t ≢ record_at (after s book (Call j u op reply)) t → Somewhere (CallsElse i t) es) → u ≡ t → (b : Bool) → is_under_claim reply ≡ b → Somewhere (CallsElse i t) (Call j u op reply ∷ es)
    by_claim more same true on = inl (same, All-head (λ e. pass_of e ≢ i) (Call j u op reply) es o, on)
    by_claim more same false off = inr (more (λ e. ne (e ∙ ap (λ b. record_at b t) (quiet off))))

    elsewhere : u ≢ t → record_at (step s book u op).0 t ≡ record_at book t
    elsewhere other = replied_else t book u (λ e. other (sym e)) (refused (record_at book u).place (record_at book u).count op) _

-- another pass called on the task between two points of a history at which its record is not the same
pub calls_between : (s : Machine) (i t : ℕ) (before after a b : List Event) → IsLegal s after → IsPrefix before after → calls_of i after ≡ calls_of i before → IsPrefix before a → IsPrefix a b → IsPrefix b after
    → record_at (book_of s a) t ≢ record_at (book_of s b) t → Any (CallsElse i t) after
calls_between s i t before after a b legal grows own from x y ne =
    let whole : after ≡ (before ++ from.0) ++ (x.0 ++ y.0) = sym y.1 ∙ ap (λ l. l ++ y.0) (sym x.1 ∙ ap (λ l. l ++ x.0) (sym from.1)) ∙ append_assoc (before ++ from.0) x.0 y.0 in
    let straight : after ≡ before ++ (from.0 ++ (x.0 ++ y.0)) = whole ∙ append_assoc before from.0 (x.0 ++ y.0) in
    let others = others_only i before (from.0 ++ (x.0 ++ y.0)) (ap (calls_of i) (sym straight) ∙ own) in
    let between = all_left (λ e. pass_of e ≢ i) x.0 y.0 (all_right (λ e. pass_of e ≢ i) from.0 (x.0 ++ y.0) others) in
    let is_b : after ≡ (a ++ x.0) ++ y.0 = sym y.1 ∙ ap (λ l. l ++ y.0) (sym x.1) in
    let legal_b : IsLegal s (a ++ x.0) = legal_first s (opening_book s) (a ++ x.0) y.0 (subst (IsLegal s) is_b legal) in
    let then = legal_rest s (opening_book s) a x.0 legal_b in
    let book = ap (book_of s) (sym x.1) ∙ book_more s a x.0 in
    let found = moved s i t (book_of s a) x.0 between then (λ e. ne (sym e ∙ ap (λ k. record_at k t) (sym book))) in
    any_of (CallsElse i t) after (subst (Somewhere (CallsElse i t)) (sym whole) (somewhere_right (CallsElse i t) (before ++ from.0) (x.0 ++ y.0) (somewhere_left (CallsElse i t) x.0 y.0 found)))

-- ---- a task that is held was taken
held_elsewhere : (i t j : ℕ) → j ≢ i → (holder : Option ℕ) (ms : List Mark) → fold (holder_after t) holder ms ≡ Some j → (holder ≡ Some j) ⊎ Somewhere (TakesElse i t) ms
held_elsewhere i t j ne holder [] is = inl is
held_elsewhere i t j ne holder (Taken k u ∷ ms) is = ⊎_elim
    (λ (h : holder_after t holder (Taken k u) ≡ Some j). dite (ℕ_discrete t u)
    (λ same. let here : Some k ≡ Some j = sym (taken_here t k holder) ∙ ap (λ v. holder_after t holder (Taken k v)) same ∙ h in
    let by : k ≡ j = ap (λ o. unwrap_or o 0) here in inr (inl (sym same, (λ e. ne (sym by ∙ e)))))
    (λ other. inl (sym (taken_else t k u holder other) ∙ h)))
    (λ h. inr (inr h))
    (held_elsewhere i t j ne (holder_after t holder (Taken k u)) ms is)
held_elsewhere i t j ne holder (Given k u ∷ ms) is = ⊎_elim
    (λ (h : holder_after t holder (Given k u) ≡ Some j). dite (ℕ_discrete t u)
    (λ same. let here : None ≡ Some j = sym (given_here t k holder) ∙ ap (λ v. holder_after t holder (Given k v)) same ∙ h in absurd (cc))
    (λ other. inl (sym (given_else t k u holder other) ∙ h)))
    (λ h. inr (inr h))
    (held_elsewhere i t j ne (holder_after t holder (Given k u)) ms is)

pub held_else : (i t : ℕ) (ms : List Mark) → (j : ℕ) → holder_of ms t ≡ Some j → j ≢ i → Any (TakesElse i t) ms
held_else i t ms j is ne = any_of (TakesElse i t) ms (⊎_elim (λ (e : None ≡ Some j). absurd (cc)) (λ k. k) (held_elsewhere i t j ne None ms is))

-- ---- what a lost try shows
-- the history has an event of another pass than i, at which the reading of runqueue r becomes another
pub record ChangesElse (s : Machine) (i r : ℕ) (history : List Event) : Type 0 where
  pub before : List Event
  pub event : Event
  pub rest : List Event
  pub stands : history ≡ (before ++ event ∷ []) ++ rest
  pub other : pass_of event ≢ i
  pub changed : reading_of (book_of s before) r ≢ reading_of (book_of s (before ++ event ∷ [])) r

reading_itself : (a b : Reading) → a ≡ b → is_reading a b ≡ true
reading_itself a b same = subst (λ x. is_reading a x ≡ true) same (ap (λ k. k && (a.this == a.this)) (eq-eqb a.running a.running refl) ∙ ap (λ k. true && k) (eq-eqb a.this a.this refl))

find_change : (s : Machine) (i r : ℕ) (h more : List Event) → All (λ e. pass_of e ≢ i) more → 1 ≤ changes_from s (book_of s h) r more → ChangesElse s i r (h ++ more)
find_change s i r h [] o some = absurd (omega (arith, some))
find_change s i r h (e ∷ es) o some =
    go (λ at_least. subst (ChangesElse s i r) (append_assoc h (e ∷ []) es) (find_change s i r (h ++ e ∷ []) es (All-tail (λ k. pass_of k ≢ i) e es o) (subst (λ b. 1 ≤ changes_from s b r es) (sym (book_push s h e)) at_least)))
    (is_reading (reading_of (book_of s h) r) (reading_of (after s (book_of s h) e) r)) refl
  where
    go : (1 ≤ changes_from s (after s (book_of s h) e) r es → ChangesElse s i r (h ++ e ∷ es)) → (b : Bool) → is_reading (reading_of (book_of s h) r) (reading_of (after s (book_of s h) e) r) ≡ b → ChangesElse s i r (h ++ e ∷ es)
    go later true is =
        let some' : 1 ≤ (cond true 0 1) + changes_from s (after s (book_of s h) e) r es = subst (λ b. 1 ≤ (cond b 0 1) + changes_from s (after s (book_of s h) e) r es) is some in
        later (omega (arith, some'))
    go later false is = record {
      before = h;
      event = e;
      rest = es;
      stands = sym (append_assoc h (e ∷ []) es);
      other = All-head (λ k. pass_of k ≢ i) e es o;
      changed = λ same.
          let on = reading_itself (reading_of (book_of s h) r) (reading_of (after s (book_of s h) e) r) (same ∙ ap (λ b. reading_of b r) (book_push s h e)) in absurd (cc);
    }

pub changed_else : (s : Machine) (i r n : ℕ) (before after : List Event) → calls_of i after ≡ calls_of i before → HasChanged s r before after n → 1 ≤ n → ChangesElse s i r after
changed_else s i r n before after own c some =
    let at_least : 1 ≤ changes_from s (book_of s before) r c.0 = omega (arith, some, c.2) in
    subst (ChangesElse s i r) (sym c.1) (find_change s i r before c.0 (others_only i before c.0 (ap (calls_of i) (sym c.1) ∙ own)) at_least)

-- what a history has shown, each later one shows
pub changes_later : (s : Machine) (i r : ℕ) (h h' : List Event) → IsPrefix h h' → ChangesElse s i r h → ChangesElse s i r h'
changes_later s i r h h' a c = record {
  before = c.before;
  event = c.event;
  rest = c.rest ++ a.0;
  stands = sym a.1 ∙ ap (λ l. l ++ a.0) c.stands ∙ append_assoc (c.before ++ c.event ∷ []) c.rest a.0;
  other = c.other;
  changed = c.changed;
}
