-- Steps that change no word and no task keep the rule: a comparison, and the cutting and joining of views.
use Rattle.std.proofs.Common.{◌≡◌, ◌≢◌, ℕ, ◌<◌, List, ◌∷◌, length, set, get_or, sym, refl, subst, ⊎_elim}
use mathlib.Core.List.{IsPrefix}
use mathlib.Core.Option.{some, none}
use lib.ListN.{get_elem?}
use lib.Seq.{set-get_or}
use Rattle.atomic_table.specs.Table.{State, Me, step, keeps, stepped, Allows, Splits, Joins}
use Rattle.atomic_table.proofs.Lists.{at_set, set_again}
use Rattle.grub_book.specs.Machine.{IsMachine}
use Rattle.grub_book.specs.Sums.{reading_of}
use Rattle.grub_book.specs.History.{book_of}
use Rattle.grub_book.specs.Sound.{IsSound}
use Rattle.grub_book.specs.declared.event.Event.{Event}
use Rattle.grub_book.proofs.Histories.{starts_whole, starts_after}
use Rattle.grub_book.proofs.Soundness.{sound_legal}
use Rattle.grub_table.specs.Words.{QueueFits}
use Rattle.grub_table.proofs.Bounds.{QueueFits-sound}
use Rattle.grub_table.specs.declared.view.Share.{Share}
use Rattle.grub_table.specs.declared.view.Terms.{Terms}
use Rattle.grub_table.specs.declared.view.View.{View}
use Rattle.grub_table.specs.Histories.{IsHistory}
use Rattle.grub_table.specs.inside.Views.{view, alone, nothing, without_first, only_first, both_of, ShareOf, MarkedBy}
use Rattle.grub_table.specs.inside.Tellings.{compares}
use Rattle.grub_table.specs.inside.Rule.{Stands, Known, Held, Grips, Grasps, Written, Kept, Marked, Since}
use Rattle.grub_table.proofs.Growths.{all_weaker}
use Rattle.grub_table.proofs.Seats.{moved, taken, known_split, known_join, each_split, each_join}

pub since_more : (T : Terms) (h h' : List Event) (grips : Grips) → IsPrefix h h' → Since T h grips → Since T h' grips
since_more T h h' grips more since t i before stored is = let s = since t i before stored is in (s.0, starts_after h' h s.0 more s.1, s.2)

-- the book of a table's history is sound, and so each reading has a word
pub sound : (T : Terms) (h : List Event) → IsMachine T.setup → IsHistory T h → IsSound T.setup (book_of T.setup h)
sound T h are is = sound_legal T.setup h are is.legal

pub reading_fits : (T : Terms) (h : List Event) (r : ℕ) → IsMachine T.setup → IsHistory T h → r < length T.setup.queues → QueueFits (reading_of (book_of T.setup h) r)
reading_fits T h r are is lt = QueueFits-sound T.setup (book_of T.setup h) r (sound T h are is) lt (are.capacities r lt)

module _ {S : Type 0} where
  -- a step that changes no word and adds no mark
  pub unmoved : (T : Terms) (s : State S View) (i id : ℕ) (c : List (ℕ × S)) (w : View) (h : List Event) (k : Kept T s) → IsPrefix k.history h → IsHistory T h → Known T h k.owner (set s.views id w) → Held T k.grips (book_of T.setup h) (set s.views id w)
      → Written T (book_of T.setup h) k.grips s.words → Marked k.marks (set s.views id w) → Kept T (stepped s i (get_or s.words i 0) id c w keeps)
  unmoved T s i id c w h k more is known held written marked = record {
    history = h;
    owner = k.owner;
    grips = k.grips;
    marks = k.marks;
    limited = k.limited;
    is_history = is;
    known = known;
    held = held;
    written = subst (Written T (book_of T.setup h) k.grips) (sym (set-get_or s.words i 0)) written;
    lawful = k.lawful;
    tied = k.tied;
    marked = marked;
    since = since_more T k.history h k.grips more k.since;
  }

  pub compare_allowed : (T : Terms) (slots id i : ℕ) (me : Me S View) → Allows (Kept T) slots id me i (λ n. n) (compares (step slots i 0 0 none) me)
  compare_allowed T slots id i me s k _ at _ =
      let same = sym (set_again s.views id me.0 at) in (
        me.0,
        keeps,
        tt,
        unmoved T s i id me.1 me.0 k.history k (starts_whole k.history) k.is_history (subst (Known T k.history k.owner) same k.known) (subst (Held T k.grips (book_of T.setup k.history)) same k.held) k.written (subst (Marked k.marks) same k.marked),
        (
          refl,
          record {
            terms = T;
            history = k.history;
            marks = k.marks;
            is_history = k.is_history;
            known = all_weaker (Stands T k.history k.owner id) (ShareOf T k.history) (λ x t. t.0) me.0.shares (k.known id me.0 at).0;
            marked = k.marked id me.0 at;
          },
        ),
      )

  pub split_allowed : (T : Terms) (id : ℕ) (x : Share) (xs : List Share) → Splits (Kept T {S = S}) id (view (x ∷ xs)) (view xs) (alone x)
  split_allowed T id x xs s k at = record {
    history = k.history;
    owner = moved k.owner x.number (length (set s.views id (view xs)));
    grips = k.grips;
    marks = k.marks;
    limited = k.limited;
    is_history = k.is_history;
    known = known_split T k.history k.owner s.views id x xs k.known at;
    held = each_split (λ (y : Share). Grasps T k.grips (book_of T.setup k.history) y.number y.hold) s.views id x xs k.held at;
    written = k.written;
    lawful = k.lawful;
    tied = k.tied;
    marked = each_split (MarkedBy k.marks) s.views id x xs k.marked at;
    since = k.since;
  }

  pub split_allowed_as : (T : Terms) (id : ℕ) (v : View) (x : Share) (xs : List Share) → v ≡ view (x ∷ xs) → Splits (Kept T {S = S}) id v (without_first v) (only_first v)
  split_allowed_as T id v x xs is = subst (λ (u : View). Splits (Kept T {S = S}) id u (without_first u) (only_first u)) (sym is) (split_allowed T id x xs)

  pub join_allowed : (T : Terms) (id : ℕ) (v : View) (other : ℕ) (w : View) → Joins (Kept T {S = S}) id v other w (both_of v w) nothing
  join_allowed T id v other w s k at apart there =
      let before = ⊎_elim (λ (t : (other ≡ id) × (both_of v w ≡ w)). absurd (apart t.0)) (λ (t : (other ≢ id) × (get_elem? s.views other ≡ some w)). t.1) (at_set s.views id other (both_of v w) w there) in record {
        history = k.history;
        owner = taken k.owner other id;
        grips = k.grips;
        marks = k.marks;
        limited = k.limited;
        is_history = k.is_history;
        known = known_join T k.history k.owner s.views id other v w k.known at apart before;
        held = each_join (λ (y : Share). Grasps T k.grips (book_of T.setup k.history) y.number y.hold) s.views id other v w k.held at before;
        written = k.written;
        lawful = k.lawful;
        tied = k.tied;
        marked = each_join (MarkedBy k.marks) s.views id other v w k.marked at before;
        since = k.since;
      }
