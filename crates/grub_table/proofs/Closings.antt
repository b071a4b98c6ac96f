-- The table at the end.
use Rattle.std.proofs.Common.{◌≡◌, ℕ, zero, suc, ◌<◌, ◌+◌, List, [], ◌∷◌, ◌++◌, length, map, get_or, refl, set, sym, ap, ◌∙◌, subst, arith, append_assoc, get_or-set_other, get_or-set_same, ⊎_elim, ◌≤◌}
use Rattle.std.proofs.lemmas.List.{length-map}
use mathlib.Core.Logic.{dite}
use native.Mathlib.Decide.{ℕ_discrete}
use mathlib.Core.List.{map-append}
use mathlib.Core.Option.{some, some-injective, some-ne-none}
use lib.ListN.{get_elem?}
use Rattle.std.specs.List.{AllByRecursion, Any}
use Rattle.std.proofs.lemmas.List.Elements.{All-from_recursion}
use Rattle.atomic_table.specs.Table.{State}
use Rattle.grub_book.specs.declared.event.Event.{Event}
use Rattle.grub_book.specs.declared.event.Reading.{Reading}
use Rattle.grub_table.specs.Words.{queue_word, QueueFits}
use Rattle.grub_table.proofs.Halves.{same_queue}
use Rattle.grub_table.specs.declared.pass.Pass.{Pass}
use Rattle.grub_table.specs.declared.shared.Shared.{Shared}
use Rattle.grub_table.specs.declared.view.Mark.{Mark}
use Rattle.grub_table.specs.declared.view.Share.{Share}
use Rattle.grub_table.specs.declared.view.Terms.{Terms}
use Rattle.grub_table.specs.declared.view.View.{View}
use Rattle.grub_table.specs.Calls.{share_of, number_of, IsClosed}
use Rattle.grub_table.specs.Knowing.{Knows}
use Rattle.grub_table.specs.Histories.{reading_in}
use Rattle.grub_table.specs.Layout.{queue_word_at}
use Rattle.grub_table.specs.inside.Rule.{Stands, Kept}
use Rattle.grub_table.specs.inside.Views.{ShareOf, MarkedBy}
use Rattle.grub_table.proofs.Growths.{all_weaker}
use Rattle.grub_table.proofs.Moves.{reading_fits}
use Rattle.grub_table.proofs.Pigeons.{Among, all_there}

pub shares_popped : (old new : List Pass) (p : Pass) (ss : List Share) → old ≡ new ++ p ∷ [] → map share_of new ++ share_of p ∷ ss ≡ map share_of old ++ ss
shares_popped old new p ss is = sym (append_assoc (map share_of new) (share_of p ∷ []) ss) ∙ ap (λ l. l ++ ss) (sym (map-append share_of new (p ∷ [])) ∙ ap (map share_of) (sym is))

pub shares_left : (xs ys : List Share) (ps : List Pass) → length ps ≡ 0 → map share_of ps ++ xs ≡ ys → xs ≡ ys
shares_left xs ys [] none is = is
shares_left xs ys (p ∷ ps) none is = absurd (omega arith)

known_by : (T : Terms) (h : List Event) (ms : List Mark) (ps : List Pass) → AllByRecursion (ShareOf T h) (map share_of ps) → AllByRecursion (MarkedBy ms) (map share_of ps) → AllByRecursion (λ p. Knows (share_of p) h ms) ps
known_by T h ms [] a b = tt
known_by T h ms (p ∷ ps) a b = (record { seen = a.0.seen; marked = b.0 }, known_by T h ms ps a.1 b.1)

has_number : (i : ℕ) (ps : List Pass) → Among i (map share_of ps) → Any (λ p. number_of p ≡ i) ps
has_number i [] a = absurd a
has_number i (p ∷ ps) a = ⊎_elim (λ is. (0, p, omega arith, refl, is)) (λ t. let k = has_number i ps t in (suc k.0, k.1, omega (arith, k.2), k.3, k.4)) a

pub get_at : (xs : List ℕ) (i a : ℕ) → get_elem? xs i ≡ some a → get_or xs i 0 ≡ a
get_at [] i a e = absurd (some-ne-none a (sym e))
get_at (x ∷ xs) zero a e = some-injective x a e
get_at (x ∷ xs) (suc i) a e = get_at xs i a e

-- the reading that was in a runqueue's word
pub record IsReadingOf (words : List ℕ) (r : ℕ) (now : Reading) : Type 0 where
  pub fits : QueueFits now
  pub word : get_or words (queue_word_at r) 0 ≡ queue_word now

pub is_reading_of : (words : List ℕ) (r found : ℕ) (now : Reading) → get_elem? words (queue_word_at r) ≡ some found → QueueFits now → queue_word now ≡ found → IsReadingOf words r now
is_reading_of words r found now at fits is = record { fits = fits; word = get_at words (queue_word_at r) found at ∙ sym is }

-- what is known of the rule's words at the end, and of the shares that stand together
module _ {S : Type 0} (self : Shared) (s : State S View) (id : ℕ) (v : View) (ps : List Pass) (words : List ℕ) (readings : List Reading) (kept : Kept self.table.inner.shared.key s) (at : get_elem? s.views id ≡ some v)
    (shares : v.shares ≡ map share_of ps) (same : s.words ≡ words) (all : self.terms.passes ≤ length ps) where
  rule : Kept self.terms s
  rule = subst (λ (T : Terms). Kept T s) self.kept kept

  pub word_fits : (r : ℕ) → r < length self.terms.setup.queues → (now : Reading) × QueueFits now × (get_or words (queue_word_at r) 0 ≡ queue_word now)
  word_fits r lt =
      let k = rule in
      (reading_in self.terms k.history r, reading_fits self.terms k.history r k.limited k.is_history lt, ap (λ l. get_or l (queue_word_at r) 0) (sym same) ∙ k.written.queues r lt)

  pub closes : length readings ≡ length self.terms.setup.queues → ((r : ℕ) (d : Reading) → r < length readings → IsReadingOf words r (get_or readings r d)) → IsClosed self ps readings
  closes room told =
      let k = rule in
      let T = self.terms in
      let mine = k.known id v at in
      record {
        history = k.history;
        is_history = k.is_history;
        marks = k.marks;
        lawful = k.lawful;
        knows = All-from_recursion (λ p. Knows (share_of p) k.history k.marks) ps
            (known_by T k.history k.marks ps (subst (AllByRecursion (ShareOf T k.history)) shares (all_weaker (Stands T k.history k.owner id) (ShareOf T k.history) (λ x t. t.0) v.shares mine.0))
            (subst (AllByRecursion (MarkedBy k.marks)) shares (k.marked id v at)));
        readings = record {
          one_each = room;
          value = λ r d lt.
              let one = told r d (omega arith) in
              same_queue _ _ one.fits (reading_fits T k.history r k.limited k.is_history lt) (sym one.word ∙ ap (λ l. get_or l (queue_word_at r) 0) (sym same) ∙ k.written.queues r lt);
        };
        whole = λ i lt. has_number i ps (subst (Among i) shares (all_there T.passes v.shares mine.1
            (all_weaker (Stands T k.history k.owner id) (λ (x : Share). x.number < T.passes) (λ x t. t.0.number) v.shares mine.0) (omega (arith, ap length shares, length-map ps share_of, all)) i lt));
      }

pub read_more : (readings : List Reading) (words : List ℕ) (r : ℕ) (now : Reading) → r < length readings → IsReadingOf words r now → ((k : ℕ) (d : Reading) → k < r → IsReadingOf words k (get_or readings k d))
    → (k : ℕ) (d : Reading) → k < r + 1 → IsReadingOf words k (get_or (set readings r now) k d)
read_more readings words r now lt is done k d below = dite (ℕ_discrete k r)
    (λ here. subst (λ (p : ℕ × Reading). IsReadingOf words p.0 p.1) (λ i. (sym here i, sym (ap (λ n. get_or (set readings r now) n d) here ∙ get_or-set_same readings r now d lt) i)) is)
    (λ other. subst (IsReadingOf words k) (sym (get_or-set_other readings r k now d other)) (done k d (omega arith)))
