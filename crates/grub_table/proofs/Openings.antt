-- The table at the start.
use Rattle.std.proofs.Common.{◌≡◌, ◌≢◌, ℕ, zero, suc, ◌+◌, ◌-◌, ◌<◌, ◌≤◌, false, List, [], ◌∷◌, ◌++◌, length, get_or, slice_index, take, sym, refl, ap, ◌∙◌, subst, arith}
use mathlib.Core.Logic.{dite}
use mathlib.Core.Option.{some, some-injective, some-ne-none}
use native.Mathlib.Decide.{ℕ_discrete}
use lib.ListN.{get_elem?}
use Rattle.std.proofs.lemmas.List.{take_more, get_or-map, get_or_push, get_or_append_left, length_push}
use Rattle.std.proofs.lemmas.List.Elements.{All-nil}
use Rattle.std.specs.List.{AllByRecursion}
use Rattle.atomic_table.specs.Table.{opening}
use Rattle.grub_book.specs.Machine.{task_at, IsMachine}
use Rattle.grub_book.specs.Sums.{opening_record, opening_book, record_at}
use Rattle.grub_book.specs.declared.place.Place.TheVariants.{Away}
use Rattle.grub_book.specs.History.{pass_of}
use Rattle.grub_book.proofs.Totals.{opening_totals}
use Rattle.grub_table.specs.Words.{queue_word, task_word}
use Rattle.grub_table.specs.declared.pass.Pass.{Pass}
use Rattle.grub_table.specs.declared.shared.Shared.{Shared}
use Rattle.grub_table.specs.declared.view.Hold.TheVariants.{Free}
use Rattle.grub_table.specs.declared.view.Share.{Share}
use Rattle.grub_table.specs.declared.view.Terms.{Terms}
use Rattle.grub_table.specs.declared.view.View.{View}
use Rattle.grub_table.specs.Layout.{task_word_at}
use Rattle.grub_table.specs.inside.Layout.{server_word_at, params_word_at}
use Rattle.grub_table.specs.Marks.{marker_of}
use Rattle.grub_table.proofs.Marks.{lawful_none}
use Rattle.grub_table.specs.inside.Views.{share}
use Rattle.grub_table.specs.inside.Views.{fresh, first_view, MarkedBy}
use Rattle.grub_table.specs.inside.FirstWords.{AreOpeningWords}
use Rattle.grub_table.specs.inside.Rule.{Stands, Apart, loose, Grasps, TaskShows, Written, Kept}
use Rattle.grub_table.specs.Calls.{AreNew, IsNew}
use Rattle.grub_table.proofs.Growths.{all_weaker, goes_none}

-- ---- copies
-- one element more of a copy
pub copied_more : {A : Type 0} (xs ys zs : List A) (k : ℕ) (d x : A) → k < length xs → ys ≡ take k xs → x ≡ get_or xs k d → zs ≡ ys ++ x ∷ [] → zs ≡ take (k + 1) xs
copied_more {A} xs ys zs k d x lt is at more = more ∙ (λ i. is i ++ at i ∷ []) ∙ sym (take_more xs k d lt)

-- ---- the words

empty_queue : queue_word (record { running = 0; this = 0 }) ≡ 0
unfolding queue_word
empty_queue = refl

away_word : task_word Away 0 false ≡ 0
unfolding task_word
away_word = refl

opening_written : (T : Terms) (words : List ℕ) → AreOpeningWords T.setup (length T.setup.tasks) words → Written T (opening_book T.setup) (λ _. loose) words
opening_written T words w = record {
  long = w.long;
  queues = λ r lt. w.queues r lt ∙ sym empty_queue ∙ ap queue_word (sym (opening_totals T.setup r));
  tasks = λ t lt.
      let s = T.setup in
      let is : record_at (opening_book s) t ≡ opening_record (task_at s t) = get_or-map opening_record s.tasks t _ _ lt in
      subst (λ x. TaskShows loose x (slice_index words (task_word_at s t)) (slice_index words (server_word_at s t)) (slice_index words (params_word_at s t))) (sym is)
      (w.tasks t lt ∙ sym away_word, w.servers t lt, w.params t lt);
}

-- ---- the first view
numbers_from : (T : Terms) (k n : ℕ) → AllByRecursion (λ (x : Share). k ≤ x.number) (fresh T k n)
numbers_from T k zero = tt
numbers_from T k (suc n) = (omega arith, all_weaker (λ (x : Share). suc k ≤ x.number) (λ (x : Share). k ≤ x.number) (λ x le. omega arith) (fresh T (suc k) n) (numbers_from T (suc k) n))

fresh_apart : (T : Terms) (k n : ℕ) → Apart (fresh T k n)
fresh_apart T k zero = tt
fresh_apart T k (suc n) = (all_weaker (λ (x : Share). suc k ≤ x.number) (λ (x : Share). x.number ≢ k) (λ x le is. omega arith) (fresh T (suc k) n) (numbers_from T (suc k) n), fresh_apart T (suc k) n)

fresh_stand : (T : Terms) (k n : ℕ) → k + n ≡ T.passes → AllByRecursion (Stands T [] (λ _. 0) 0) (fresh T k n)
fresh_stand T k zero is = tt
fresh_stand T k (suc n) is = ((record { terms = refl; number = omega arith; seen = goes_none pass_of k [] }, refl), fresh_stand T (suc k) n (omega arith))

fresh_free : (T : Terms) (k n : ℕ) → AllByRecursion (λ (x : Share). Grasps T (λ _. loose) (opening_book T.setup) x.number x.hold) (fresh T k n)
fresh_free T k zero = tt
fresh_free T k (suc n) = ((λ u before stored is. cc), fresh_free T (suc k) n)

fresh_unmarked : (T : Terms) (k n : ℕ) → AllByRecursion (MarkedBy []) (fresh T k n)
fresh_unmarked T k zero = tt
fresh_unmarked T k (suc n) = (goes_none marker_of k [], fresh_unmarked T (suc k) n)

opens : {S : Type 0} (T : Terms) (words : List ℕ) → IsMachine T.setup → AreOpeningWords T.setup (length T.setup.tasks) words → Kept T {S = S} (opening words [] (first_view T))
opens T words limited are = record {
  history = [];
  owner = λ _. 0;
  grips = λ _. loose;
  marks = [];
  limited = limited;
  is_history = record { legal = tt; numbers = All-nil (λ e. pass_of e < T.passes) };
  known = λ id v e. (one id v e).0;
  held = λ id v e. (one id v e).1;
  written = opening_written T words are;
  lawful = lawful_none T.passes;
  tied = λ t. refl;
  marked = λ id v e. (one id v e).2;
  since = λ t i before stored is. absurd (cc);
}
  where
    one : (id : ℕ) (v : View) → get_elem? (first_view T ∷ []) id ≡ some v
        → (AllByRecursion (Stands T [] (λ _. 0) id) v.shares × Apart v.shares) × AllByRecursion (λ (x : Share). Grasps T (λ _. loose) (opening_book T.setup) x.number x.hold) v.shares × AllByRecursion (MarkedBy []) v.shares
    one zero v e = subst (λ (u : View). (AllByRecursion (Stands T [] (λ _. 0) 0) u.shares × Apart u.shares) × AllByRecursion (λ (x : Share). Grasps T (λ _. loose) (opening_book T.setup) x.number x.hold) u.shares × AllByRecursion (MarkedBy []) u.shares)
        (some-injective (first_view T) v e) ((fresh_stand T 0 T.passes (omega arith), fresh_apart T 0 T.passes), fresh_free T 0 T.passes, fresh_unmarked T 0 T.passes)
    one (suc id) v e = absurd (some-ne-none v (sym e))

pub opens_as : {S : Type 0} (T : Terms) (words words' : List ℕ) (slots : List S) → IsMachine T.setup → AreOpeningWords T.setup (length T.setup.tasks) words → words' ≡ words → slots ≡ [] → Kept T {S = S} (opening words' slots (first_view T))
opens_as {S} T words words' slots ok are ws ss = subst (λ (p : List ℕ × List S). Kept T {S = S} (opening p.0 p.1 (first_view T))) (λ i. (sym ws i, sym ss i)) (opens T words ok are)

-- ---- dealing
pub fresh_next : (T : Terms) (k n : ℕ) → k < n → fresh T k (n - k) ≡ share T k [] Free [] ∷ fresh T (k + 1) (n - (k + 1))
fresh_next T k n lt = let more : n - k ≡ suc (n - (k + 1)) = omega arith in let next : suc k ≡ k + 1 = omega arith in
    ap (fresh T k) more ∙ ap (λ m. share T k [] Free [] ∷ fresh T m (n - (k + 1))) next

pub new_more : (s : Shared) (ps : List Pass) (p : Pass) → AreNew s ps → IsNew s (length ps) p → AreNew s (ps ++ p ∷ [])
new_more s ps p new one i d low = dite (ℕ_discrete i (length ps))
    (λ last. subst (λ (k : ℕ × Pass). IsNew s k.0 k.1) (λ j. (sym last j, sym (get_or_push ps p d i (sym last)) j)) one)
    (λ other. let before : i < length ps = omega (arith, low, other, length_push ps p) in subst (IsNew s i) (sym (get_or_append_left ps (p ∷ []) d i before)) (new i d before))
