-- How often the reading of a runqueue becomes another along a history.
use Rattle.std.proofs.Common.{◌≡◌, ◌≢◌, ℕ, ◌+◌, ◌≤◌, ◌==◌, ◌&&◌, Bool, true, false, cond, List, [], ◌∷◌, fold, ◌++◌, refl, ap, sym, subst, ◌∙◌, arith}
use Rattle.std.proofs.lemmas.Bool.{eqb-true}
use Rattle.std.proofs.lemmas.List.{append_assoc}
use mathlib.Core.List.{IsPrefix}
use Rattle.grub_book.specs.Machine.{Machine}
use Rattle.grub_book.specs.Sums.{Records, reading_of}
use Rattle.grub_book.specs.History.{after, book_of, is_reading, changes_from, changes_of, HasChanged}
use Rattle.grub_book.specs.declared.event.Event.{Event}
use Rattle.grub_book.specs.declared.event.Reading.{Reading}
use Rattle.grub_book.proofs.Histories.{book_more}
use Rattle.grub_book.proofs.Totals.{same_sums}

pub changes_from-append : (s : Machine) (book : Records) (r : ℕ) (more rest : List Event) → changes_from s book r (more ++ rest) ≡ changes_from s book r more + changes_from s (fold (after s) book more) r rest
changes_from-append s book r [] rest = omega arith
changes_from-append s book r (e ∷ more) rest =
    let first : ℕ = cond (is_reading (reading_of book r) (reading_of (after s book e) r)) 0 1 in
    ap (λ n. first + n) (changes_from-append s (after s book e) r more rest) ∙ omega arith

-- the changes of one stretch of a history and of the next add up
pub changes-append : (s : Machine) (r : ℕ) (h more rest : List Event) → changes_of s r h (more ++ rest) ≡ changes_of s r h more + changes_of s r (h ++ more) rest
changes-append s r h more rest =
    changes_from-append s (book_of s h) r more rest ∙ ap (λ b. changes_of s r h more + changes_from s b r rest) (sym (book_more s h more))

equal_parts : (a b : Reading) (x y : Bool) → (a.running == b.running) ≡ x → (a.this == b.this) ≡ y → (x && y) ≡ true → a ≡ b
equal_parts a b true true running this both = same_sums a.running a.this b.running b.this (eqb-true _ _ running) (eqb-true _ _ this)
equal_parts a b true false running this both = absurd cc
equal_parts a b false y running this both = absurd cc

pub is_reading-true : (a b : Reading) → is_reading a b ≡ true → a ≡ b
is_reading-true a b same = equal_parts a b (a.running == b.running) (a.this == b.this) refl refl same

one_of_both : (same : Bool) (n : ℕ) → (same ≡ true → 1 ≤ n) → 1 ≤ cond same 0 1 + n
one_of_both true n h = let k = h refl in omega (arith, k)
one_of_both false n h = omega arith

-- where the reading is another in the end, an event made it so
changes_some : (s : Machine) (book : Records) (r : ℕ) (more : List Event) → reading_of book r ≢ reading_of (fold (after s) book more) r → 1 ≤ changes_from s book r more
changes_some s book r [] other = absurd (other refl)
changes_some s book r (e ∷ more) other =
    one_of_both (is_reading (reading_of book r) (reading_of (after s book e) r)) (changes_from s (after s book e) r more)
    (λ same. changes_some s (after s book e) r more (λ is. other (is_reading-true _ _ same ∙ is)))

pub changed_none : (s : Machine) (r : ℕ) (earlier later : List Event) → IsPrefix earlier later → HasChanged s r earlier later 0
changed_none s r earlier later starts = (starts.0, sym starts.1, omega arith)

pub changed_once : (s : Machine) (r : ℕ) (earlier later : List Event) → IsPrefix earlier later → reading_of (book_of s earlier) r ≢ reading_of (book_of s later) r → HasChanged s r earlier later 1
changed_once s r earlier later starts other =
    let now : book_of s later ≡ fold (after s) (book_of s earlier) starts.0 = ap (book_of s) (sym starts.1) ∙ book_more s earlier starts.0 in
    (starts.0, sym starts.1, changes_some s (book_of s earlier) r starts.0 (λ is. other (is ∙ sym (ap (λ b. reading_of b r) now))))

-- the changes of one stretch and of the next
pub changed_more : (s : Machine) (r : ℕ) (a b c : List Event) (n m : ℕ) → HasChanged s r a b n → HasChanged s r b c m → HasChanged s r a c (n + m)
changed_more s r a b c n m p q =
    let sum = changes-append s r a p.0 q.0 in
    let late : m ≤ changes_of s r (a ++ p.0) q.0 = subst (λ h. m ≤ changes_of s r h q.0) p.1 q.2 in
    let early = p.2 in
    (p.0 ++ q.0, q.1 ∙ ap (λ l. l ++ q.0) p.1 ∙ append_assoc a p.0 q.0, omega (arith, sum, late, early))
