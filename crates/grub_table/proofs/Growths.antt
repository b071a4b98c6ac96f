-- Histories that go on.
use Rattle.std.proofs.Common.{◌≡◌, ◌≢◌, ◌==◌, ℕ, ◌<◌, cond, filter, List, [], ◌∷◌, ◌++◌, refl, sym, ap, ◌∙◌, subst, append_assoc, append-nil, eq-eqb, ne_eqb}
use Rattle.std.specs.List.{AllByRecursion}
use Rattle.std.proofs.lemmas.List.Elements.{All-push, filter-append}
use Rattle.grub_book.specs.History.{IsTrueOf, book_of, pass_of}
use Rattle.grub_book.specs.declared.event.Event.{Event}
use Rattle.grub_book.specs.declared.event.Event.TheVariants.{Call}
use Rattle.grub_book.specs.declared.op.Op.{Op}
use Rattle.grub_book.specs.declared.reply.Reply.{Reply}
use Rattle.grub_book.proofs.Histories.{legal_push, starts_whole, starts_after}
use Rattle.grub_table.specs.declared.view.Mark.{Mark}
use Rattle.grub_table.specs.declared.view.Share.{Share}
use Rattle.grub_table.specs.declared.view.Terms.{Terms}
use Rattle.grub_table.specs.Histories.{IsHistory}
use Rattle.grub_table.specs.Knowing.{GoesOn, Knows, Learns}
use Rattle.grub_table.specs.Marks.{marker_of}
use Rattle.grub_table.specs.inside.Tellings.{Finishes, MarksGo, Sees, Calls}
use Rattle.grub_table.specs.inside.Views.{ShareOf}

pub all_append : {X : Type 0} (P : X → Type 0) (xs ys : List X) → AllByRecursion P xs → AllByRecursion P ys → AllByRecursion P (xs ++ ys)
all_append P [] ys a b = b
all_append P (x ∷ xs) ys a b = (a.0, all_append P xs ys a.1 b)

pub all_weaker : {X : Type 0} (P Q : X → Type 0) → ((x : X) → P x → Q x) → (xs : List X) → AllByRecursion P xs → AllByRecursion Q xs
all_weaker P Q f [] a = tt
all_weaker P Q f (x ∷ xs) a = (f x a.0, all_weaker P Q f xs a.1)

pub all_both : {X : Type 0} (P Q R : X → Type 0) → ((x : X) → P x → Q x → R x) → (xs : List X) → AllByRecursion P xs → AllByRecursion Q xs → AllByRecursion R xs
all_both P Q R f [] a b = tt
all_both P Q R f (x ∷ xs) a b = (f x a.0 b.0, all_both P Q R f xs a.1 b.1)

-- one event more
pub history_more : (T : Terms) (h : List Event) (e : Event) → IsHistory T h → IsTrueOf T.setup (book_of T.setup h) e → pass_of e < T.passes → IsHistory T (h ++ e ∷ [])
history_more T h e is so below = record {
  legal = legal_push T.setup h e is.legal so;
  numbers = All-push (λ (f : Event). pass_of f < T.passes) h e is.numbers below;
}

-- ---- lists that go on
module _ {X : Type 0} (by : X → ℕ) (i : ℕ) where
  abbrev own : List X → List X
  own xs = filter (λ x. by x == i) xs

  pub goes_none : (a : List X) → GoesOn by i a a []
  goes_none a = record { starts = starts_whole a; own = sym (append-nil (own a)) }

  pub goes_twice : (a b c xs ys : List X) → GoesOn by i a b xs → GoesOn by i b c ys → GoesOn by i a c (xs ++ ys)
  goes_twice a b c xs ys g h = record { starts = starts_after c b a h.starts g.starts; own = h.own ∙ ap (λ l. l ++ ys) g.own ∙ append_assoc (own a) xs ys }

  -- one item more, of i or not
  pub goes_own : (a b : List X) (x : X) → by x ≡ i → GoesOn by i a b [] → GoesOn by i a (b ++ x ∷ []) (x ∷ [])
  goes_own a b x is g = goes_twice a b (b ++ x ∷ []) [] (x ∷ []) g
      (record { starts = (x ∷ [], refl); own = filter-append (λ y. by y == i) b (x ∷ []) ∙ ap (λ l. own b ++ l) (ap (λ t. cond t (x ∷ []) []) (eq-eqb (by x) i is)) })

  pub goes_else : (a b : List X) (x : X) → by x ≢ i → GoesOn by i a b [] → GoesOn by i a (b ++ x ∷ []) []
  goes_else a b x not g = goes_twice a b (b ++ x ∷ []) [] [] g
      (record { starts = (x ∷ [], refl); own = filter-append (λ y. by y == i) b (x ∷ []) ∙ ap (λ l. own b ++ l) (ap (λ t. cond t (x ∷ []) []) (ne_eqb (by x) i not)) })

-- what a pass is told whose event is the next of the history
pub finished : (T : Terms) (h : List Event) (x : Share) (e : Event) → IsHistory T (h ++ e ∷ []) → ShareOf T h x → pass_of e ≡ x.number → Finishes T x.number x.seen e (h ++ e ∷ [])
finished T h x e is k by = (is, goes_own pass_of x.number x.seen h e by k.seen, (h, refl))

-- ---- two steps, one after the other
pub sees_after : (T : Terms) (x m y : Share) → m.number ≡ x.number → Sees T x m → Sees T m y → Sees T x y
sees_after T x m y same g h = (h.0, goes_twice pass_of x.number x.seen m.seen y.seen [] [] g.1 (subst (λ n. GoesOn pass_of n m.seen y.seen []) same h.1))

pub calls_after : (T : Terms) (x m y : Share) (t : ℕ) (op : Op) (reply : Reply) → m.number ≡ x.number → Sees T x m → Calls T m t op reply y → Calls T x t op reply y
calls_after T x m y t op reply same g f =
    let h = subst (λ n. Finishes T n m.seen (Call n t op reply) y.seen) same f in
    (h.0, goes_twice pass_of x.number x.seen m.seen y.seen [] (Call x.number t op reply ∷ []) g.1 h.1, h.2)

pub marks_both : (n i : ℕ) (a b c xs ys : List Mark) → MarksGo n i a b xs → MarksGo n i b c ys → MarksGo n i a c (xs ++ ys)
marks_both n i a b c xs ys g h = (h.0, goes_twice marker_of i a b c xs ys g.1 h.1)

-- ---- a pass that learns more
pub learns_none : (x : Share) → Learns x x [] []
learns_none x = record { number = refl; seen = goes_none pass_of x.number x.seen; marked = goes_none marker_of x.number x.marks }

pub learns_twice : (x y z : Share) (a b : List Event) (m n : List Mark) → Learns x y a m → Learns y z b n → Learns x z (a ++ b) (m ++ n)
learns_twice x y z a b m n g h = record {
  number = h.number ∙ g.number;
  seen = goes_twice pass_of x.number x.seen y.seen z.seen a b g.seen (subst (λ i. GoesOn pass_of i y.seen z.seen b) g.number h.seen);
  marked = goes_twice marker_of x.number x.marks y.marks z.marks m n g.marked (subst (λ i. GoesOn marker_of i y.marks z.marks n) g.number h.marked);
}

pub learns_known : (x y : Share) (h : List Event) (ms : List Mark) (a : List Event) (m : List Mark) → Learns x y a m → Knows y h ms → GoesOn pass_of x.number x.seen h a × GoesOn marker_of x.number x.marks ms m
learns_known x y h ms a m g k =
    let whole = learns_twice x y (record { terms = y.terms; number = y.number; seen = h; hold = y.hold; marks = ms }) a [] m [] g (record { number = refl; seen = k.seen; marked = k.marked }) in
    (subst (λ l. GoesOn pass_of x.number x.seen h l) (append-nil a) whole.seen, subst (λ l. GoesOn marker_of x.number x.marks ms l) (append-nil m) whole.marked)
