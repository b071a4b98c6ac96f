-- What the views of all seats keep: what each pass has seen, and what it holds.
use Rattle.std.proofs.Common.{◌≡◌, ◌≢◌, ◌⊎◌, ℕ, zero, suc, List, [], ◌∷◌, ◌++◌, length, set, sym, refl, ap, ◌∙◌, subst, ⊎_elim, inl, inr, cond, eqb, eq-eqb, ne_eqb}
use mathlib.Core.Logic.{dite}
use mathlib.Core.Option.{some, some-injective, some-ne-none}
use native.Mathlib.Decide.{ℕ_discrete}
use lib.ListN.{get_elem?}
use Rattle.std.specs.List.{AllByRecursion}
use Rattle.atomic_table.proofs.Lists.{at_set}
use Rattle.grub_book.specs.Sums.{Records, record_at}
use Rattle.grub_book.specs.History.{pass_of}
use Rattle.grub_book.specs.declared.event.Event.{Event}
use Rattle.grub_book.specs.declared.place.Record.{Record}
use Rattle.grub_table.specs.declared.view.Hold.{Hold}
use Rattle.grub_table.specs.declared.view.Hold.TheVariants.{Free, Undecided, Decided}
use Rattle.grub_table.specs.declared.view.Mark.{Mark}
use Rattle.grub_table.specs.declared.view.Share.{Share}
use Rattle.grub_table.specs.declared.view.Stored.{Stored}
use Rattle.grub_table.specs.declared.view.Terms.{Terms}
use Rattle.grub_table.specs.declared.view.View.{View}
use Rattle.grub_table.specs.Marks.{marker_of}
use Rattle.grub_table.specs.inside.Layout.{stored_of}
use Rattle.grub_table.specs.inside.Views.{view, alone, nothing, both_of, holding, ShareOf, MarkedBy}
use Rattle.grub_table.specs.inside.Rule.{Stands, Apart, Known, Grip, Grips, loose, grip, IsOnly, Grasps, Held, Marked}
use Rattle.grub_table.proofs.Growths.{all_append, all_weaker, all_both, goes_else, goes_none}

-- the events of others change nothing that is known of a pass
share_more : (T : Terms) (h : List Event) (e : Event) (x : Share) → pass_of e ≢ x.number → ShareOf T h x → ShareOf T (h ++ e ∷ []) x
share_more T h e x other is = record {
  terms = is.terms;
  number = is.number;
  seen = goes_else pass_of x.number x.seen h e other is.seen;
}

-- all views of the other seats, and the new one, are known
pub known_set : (T : Terms) (h h' : List Event) (owner : ℕ → ℕ) (views : List View) (id : ℕ) (w : View) → Known T h owner views
    → ((j : ℕ) (x : Share) → j ≢ id → Stands T h owner j x → Stands T h' owner j x) → AllByRecursion (Stands T h' owner id) w.shares → Apart w.shares → Known T h' owner (set views id w)
known_set T h h' owner views id w known others mine apart j v at = ⊎_elim
    (λ (t : (j ≡ id) × (w ≡ v)). subst (λ (y : ℕ × View). AllByRecursion (Stands T h' owner y.0) y.1.shares × Apart y.1.shares) (λ i. (sym t.0 i, t.1 i)) (mine, apart))
    (λ (t : (j ≢ id) × (get_elem? views j ≡ some v)). let k = known j v t.1 in (all_weaker (Stands T h owner j) (Stands T h' owner j) (λ x. others j x t.0) v.shares k.0, k.1))
    (at_set views id j w v at)

-- one pass adds an event, and sees all of the history
pub known_event : (T : Terms) (h : List Event) (owner : ℕ → ℕ) (views : List View) (id : ℕ) (x : Share) (e : Event) (hold : Hold) (marks : List Mark) → Known T h owner views → get_elem? views id ≡ some (alone x) → pass_of e ≡ x.number
    → Known T (h ++ e ∷ []) owner (set views id (alone (holding x (h ++ e ∷ []) hold marks)))
known_event T h owner views id x e hold marks known at by = let mine = (known id (alone x) at).0.0 in
    known_set T h (h ++ e ∷ []) owner views id (alone (holding x (h ++ e ∷ []) hold marks)) known
    (λ j y other s. (share_more T h e y (λ same. other (sym s.1 ∙ ap owner (sym same ∙ by) ∙ mine.1)) s.0, s.1))
    ((record { terms = mine.0.terms; number = mine.0.number; seen = goes_none pass_of x.number (h ++ e ∷ []) }, mine.1), tt)
    (tt, tt)

-- a pass sees all of the history
pub known_seen : (T : Terms) (h : List Event) (owner : ℕ → ℕ) (views : List View) (id : ℕ) (x : Share) (hold : Hold) (marks : List Mark) → Known T h owner views → get_elem? views id ≡ some (alone x) → Known T h owner (set views id (alone (holding x h hold marks)))
known_seen T h owner views id x hold marks known at = let mine = (known id (alone x) at).0.0 in
    known_set T h h owner views id (alone (holding x h hold marks)) known (λ j y other s. s) ((record { terms = mine.0.terms; number = mine.0.number; seen = goes_none pass_of x.number h }, mine.1), tt) (tt, tt)

-- a pass sees nothing new
pub known_kept : (T : Terms) (h : List Event) (owner : ℕ → ℕ) (views : List View) (id : ℕ) (x : Share) (hold : Hold) (marks : List Mark) → Known T h owner views → get_elem? views id ≡ some (alone x) → Known T h owner (set views id (alone (holding x x.seen hold marks)))
known_kept T h owner views id x hold marks known at = let mine = (known id (alone x) at).0.0 in
    known_set T h h owner views id (alone (holding x x.seen hold marks)) known (λ j y other s. s) ((record { terms = mine.0.terms; number = mine.0.number; seen = mine.0.seen }, mine.1), tt) (tt, tt)

-- ---- cutting and joining views
at_snoc_else : {A : Type 0} (l : List A) (a b : A) (j : ℕ) → get_elem? (l ++ a ∷ []) j ≡ some b → (get_elem? l j ≡ some b) ⊎ ((j ≡ length l) × (a ≡ b))
at_snoc_else [] a b zero e = inr (refl, some-injective a b e)
at_snoc_else [] a b (suc j) e = absurd (some-ne-none b (sym e))
at_snoc_else (x ∷ xs) a b zero e = inl e
at_snoc_else (x ∷ xs) a b (suc j) e = ⊎_elim inl (λ (t : (j ≡ length xs) × (a ≡ b)). inr (ap suc t.0, t.1)) (at_snoc_else xs a b j e)

apart_append : (xs ys : List Share) → Apart xs → Apart ys → AllByRecursion (λ (x : Share). AllByRecursion (λ (y : Share). y.number ≢ x.number) ys) xs → Apart (xs ++ ys)
apart_append [] ys a b c = b
apart_append (x ∷ xs) ys a b c = (all_append (λ (y : Share). y.number ≢ x.number) xs ys a.0 c.0, apart_append xs ys a.1 b c.1)

pub moved : (ℕ → ℕ) → ℕ → ℕ → ℕ → ℕ
moved owner number new i = cond (eqb i number) new (owner i)

moved_here : (owner : ℕ → ℕ) (number new : ℕ) → moved owner number new number ≡ new
unfolding moved
moved_here owner number new = ap (λ b. cond b new (owner number)) (eq-eqb number number refl)

moved_else : (owner : ℕ → ℕ) (number new i : ℕ) → i ≢ number → moved owner number new i ≡ owner i
unfolding moved
moved_else owner number new i other = ap (λ b. cond b new (owner i)) (ne_eqb i number other)

pub known_split : (T : Terms) (h : List Event) (owner : ℕ → ℕ) (views : List View) (id : ℕ) (x : Share) (xs : List Share) → Known T h owner views → get_elem? views id ≡ some (view (x ∷ xs))
    → Known T h (moved owner x.number (length (set views id (view xs)))) (set views id (view xs) ++ alone x ∷ [])
known_split T h owner views id x xs known at j v there =
    let mine = known id (view (x ∷ xs)) at in
    let vs : List View = set views id (view xs) in
    let next : ℕ = length vs in
    let owner' : ℕ → ℕ = moved owner x.number next in
    ⊎_elim
    (λ (old : get_elem? vs j ≡ some v). ⊎_elim
    (λ (t : (j ≡ id) × (view xs ≡ v)). subst (λ (y : ℕ × View). AllByRecursion (Stands T h owner' y.0) y.1.shares × Apart y.1.shares) (λ i. (sym t.0 i, t.1 i))
    (all_both (Stands T h owner id) (λ (y : Share). y.number ≢ x.number) (Stands T h owner' id) (λ y s other. (s.0, moved_else owner x.number next y.number other ∙ s.1)) xs mine.0.1 mine.1.0, mine.1.1))
    (λ (t : (j ≢ id) × (get_elem? views j ≡ some v)). let k = known j v t.1 in
    (all_weaker (Stands T h owner j) (Stands T h owner' j) (λ y s. (s.0, moved_else owner x.number next y.number (λ same. t.0 (sym s.1 ∙ ap owner same ∙ mine.0.0.1)) ∙ s.1)) v.shares k.0, k.1))
    (at_set views id j (view xs) v old))
    (λ (t : (j ≡ next) × (alone x ≡ v)). subst (λ (y : ℕ × View). AllByRecursion (Stands T h owner' y.0) y.1.shares × Apart y.1.shares) (λ i. (sym t.0 i, t.1 i))
    (((mine.0.0.0, moved_here owner x.number next), tt), (tt, tt)))
    (at_snoc_else vs (alone x) v j there)

pub taken : (ℕ → ℕ) → ℕ → ℕ → ℕ → ℕ
taken owner other id i = cond (eqb (owner i) other) id (owner i)

taken_from : (owner : ℕ → ℕ) (other id i : ℕ) → owner i ≡ other → taken owner other id i ≡ id
unfolding taken
taken_from owner other id i is = ap (λ b. cond b id (owner i)) (eq-eqb (owner i) other is)

taken_else : (owner : ℕ → ℕ) (other id i : ℕ) → owner i ≢ other → taken owner other id i ≡ owner i
unfolding taken
taken_else owner other id i not = ap (λ b. cond b id (owner i)) (ne_eqb (owner i) other not)

pub known_join : (T : Terms) (h : List Event) (owner : ℕ → ℕ) (views : List View) (id other : ℕ) (v w : View) → Known T h owner views → get_elem? views id ≡ some v → other ≢ id → get_elem? views other ≡ some w
    → Known T h (taken owner other id) (set (set views id (both_of v w)) other nothing)
known_join T h owner views id other v w known at apart there j u now =
    let mine = known id v at in
    let theirs = known other w there in
    let owner' : ℕ → ℕ = taken owner other id in
    let xs : List Share = v.shares in
    let ys : List Share = w.shares in
    ⊎_elim
    (λ (t : (j ≡ other) × (nothing ≡ u)). subst (λ (y : View). AllByRecursion (Stands T h owner' j) y.shares × Apart y.shares) t.1 (tt, tt))
    (λ (t : (j ≢ other) × (get_elem? (set views id (both_of v w)) j ≡ some u)). ⊎_elim
    (λ (r : (j ≡ id) × (both_of v w ≡ u)). subst (λ (y : ℕ × View). AllByRecursion (Stands T h owner' y.0) y.1.shares × Apart y.1.shares) (λ i. (sym r.0 i, r.1 i)) (
      all_append (Stands T h owner' id) ys xs
          (all_weaker (Stands T h owner other) (Stands T h owner' id) (λ y s. (s.0, taken_from owner other id y.number s.1)) ys theirs.0)
          (all_weaker (Stands T h owner id) (Stands T h owner' id) (λ y s. (s.0, taken_else owner other id y.number (λ is. apart (sym is ∙ s.1)) ∙ s.1)) xs mine.0),
      apart_append ys xs theirs.1 mine.1
          (all_weaker (Stands T h owner other) (λ (x : Share). AllByRecursion (λ (y : Share). y.number ≢ x.number) xs)
          (λ x s. all_weaker (Stands T h owner id) (λ (y : Share). y.number ≢ x.number) (λ y o same. apart (sym s.1 ∙ ap owner (sym same) ∙ o.1)) xs mine.0) ys theirs.0),
    ))
    (λ (r : (j ≢ id) × (get_elem? views j ≡ some u)). let k = known j u r.1 in
    (all_weaker (Stands T h owner j) (Stands T h owner' j) (λ y s. (s.0, taken_else owner other id y.number (λ is. t.0 (sym s.1 ∙ is)) ∙ s.1)) u.shares k.0, k.1))
    (at_set views id j (both_of v w) u t.1))
    (at_set (set views id (both_of v w)) other j nothing u now)

-- ---- what is held
-- nobody but the pass i has the task
abbrev pub IsMine : ℕ → Grip → Type 0
IsMine i loose = Unit {0}
IsMine i (grip j before stored) = j ≡ i

not_mine : (i j : ℕ) (g : Grip) (before : Record) (stored : Stored) → IsMine i g → g ≡ grip j before stored → j ≡ i
not_mine i j g before stored mine is = subst (IsMine i) is mine

only_else : (grips grips' : Grips) (t i j u : ℕ) → j ≢ i → IsMine i (grips' t) → ((v : ℕ) → v ≢ t → grips' v ≡ grips v) → IsOnly grips j u → IsOnly grips' j u
only_else grips grips' t i j u other mine same only v before stored is = dite (ℕ_discrete v t)
    (λ here. absurd (other (not_mine i j (grips' t) before stored mine (ap grips' (sym here) ∙ is))))
    (λ else. only v before stored (sym (same v else) ∙ is))

-- what another pass holds stays, where only the task t changes, which is the pass i's or nobody's
pub grasps_else : (T : Terms) (grips grips' : Grips) (book book' : Records) (t i j : ℕ) (hold : Hold) → j ≢ i → IsMine i (grips t) → IsMine i (grips' t) → ((v : ℕ) → v ≢ t → grips' v ≡ grips v)
    → ((v : ℕ) → v ≢ t → record_at book' v ≡ record_at book v) → Grasps T grips book j hold → Grasps T grips' book' j hold
grasps_else T grips grips' book book' t i j Free other mine mine' same records g = λ u before stored is. dite (ℕ_discrete u t)
    (λ here. other (not_mine i j (grips' t) before stored mine' (ap grips' (sym here) ∙ is)))
    (λ else. g u before stored (sym (same u else) ∙ is))
grasps_else T grips grips' book book' t i j (Undecided u op rec) other mine mine' same records g =
    let else : u ≢ t = λ here. other (not_mine i j (grips t) rec (stored_of rec) mine (ap grips (sym here) ∙ g.1)) in
    (g.0, same u else ∙ g.1, records u else ∙ g.2, only_else grips grips' t i j u other mine' same g.3)
grasps_else T grips grips' book book' t i j (Decided u before rec stored) other mine mine' same records g =
    let else : u ≢ t = λ here. other (not_mine i j (grips t) before stored mine (ap grips (sym here) ∙ g.1)) in
    (g.0, same u else ∙ g.1, records u else ∙ g.2, only_else grips grips' t i j u other mine' same g.3)

pub held_turn : (T : Terms) (h : List Event) (owner : ℕ → ℕ) (grips grips' : Grips) (book book' : Records) (views : List View) (id : ℕ) (x : Share) (t : ℕ) (seen : List Event) (hold : Hold) (marks : List Mark)
    → Known T h owner views → Held T grips book views → get_elem? views id ≡ some (alone x) → IsMine x.number (grips t) → IsMine x.number (grips' t) → ((v : ℕ) → v ≢ t → grips' v ≡ grips v)
    → ((v : ℕ) → v ≢ t → record_at book' v ≡ record_at book v) → Grasps T grips' book' x.number hold → Held T grips' book' (set views id (alone (holding x seen hold marks)))
held_turn T h owner grips grips' book book' views id x t seen hold marks known held at mine mine' same records new j v there =
    let P : ℕ → Hold → Type 0 = Grasps T grips' book' in
    let here = (known id (alone x) at).0.0 in ⊎_elim
    (λ (c : (j ≡ id) × (alone (holding x seen hold marks) ≡ v)). subst (λ (y : View). AllByRecursion (λ (z : Share). P z.number z.hold) y.shares) c.1 (new, tt))
    (λ (c : (j ≢ id) × (get_elem? views j ≡ some v)). all_both (Stands T h owner j) (λ (z : Share). Grasps T grips book z.number z.hold) (λ (z : Share). P z.number z.hold)
    (λ y s g. grasps_else T grips grips' book book' t x.number y.number y.hold (λ is. c.0 (sym s.1 ∙ ap owner is ∙ here.1)) mine mine' same records g) v.shares (known j v c.1).0 (held j v c.1))
    (at_set views id j (alone (holding x seen hold marks)) v there)

-- a pass's own hold changes, and no grips and no record
pub held_own : (T : Terms) (grips : Grips) (book : Records) (views : List View) (id : ℕ) (x : Share) (seen : List Event) (hold : Hold) (marks : List Mark) → Held T grips book views → Grasps T grips book x.number hold → Held T grips book (set views id (alone (holding x seen hold marks)))
held_own T grips book views id x seen hold marks held new j v there = ⊎_elim
    (λ (c : (j ≡ id) × (alone (holding x seen hold marks) ≡ v)). subst (λ (y : View). AllByRecursion (λ (z : Share). Grasps T grips book z.number z.hold) y.shares) c.1 (new, tt))
    (λ (c : (j ≢ id) × (get_elem? views j ≡ some v)). held j v c.1)
    (at_set views id j (alone (holding x seen hold marks)) v there)

-- ---- marks
pub each_own : (P : Share → Type 0) (views : List View) (id : ℕ) (y : Share) → ((j : ℕ) (v : View) → get_elem? views j ≡ some v → AllByRecursion P v.shares) → P y → (j : ℕ) (v : View) → get_elem? (set views id (alone y)) j ≡ some v → AllByRecursion P v.shares
each_own P views id y each new j v there = ⊎_elim
    (λ (c : (j ≡ id) × (alone y ≡ v)). subst (λ (w : View). AllByRecursion P w.shares) c.1 (new, tt))
    (λ (c : (j ≢ id) × (get_elem? views j ≡ some v)). each j v c.1)
    (at_set views id j (alone y) v there)

-- one pass adds a mark, and sees all marks
pub marked_more : (T : Terms) (h : List Event) (owner : ℕ → ℕ) (ms : List Mark) (views : List View) (id : ℕ) (x : Share) (m : Mark) (seen : List Event) (hold : Hold) → Known T h owner views → Marked ms views → get_elem? views id ≡ some (alone x) → marker_of m ≡ x.number
    → Marked (ms ++ m ∷ []) (set views id (alone (holding x seen hold (ms ++ m ∷ []))))
marked_more T h owner ms views id x m seen hold known marked at by j v there =
    let here = (known id (alone x) at).0.0 in
    let y : Share = holding x seen hold (ms ++ m ∷ []) in ⊎_elim
    (λ (c : (j ≡ id) × (alone y ≡ v)). subst (λ (w : View). AllByRecursion (MarkedBy (ms ++ m ∷ [])) w.shares) c.1 (goes_none marker_of x.number (ms ++ m ∷ []), tt))
    (λ (c : (j ≢ id) × (get_elem? views j ≡ some v)). all_both (Stands T h owner j) (MarkedBy ms) (MarkedBy (ms ++ m ∷ []))
    (λ z s k. goes_else marker_of z.number z.marks ms m (λ is. c.0 (sym s.1 ∙ ap owner (sym is ∙ by) ∙ here.1)) k) v.shares (known j v c.1).0 (marked j v c.1))
    (at_set views id j (alone y) v there)

-- views are cut and joined
pub each_split : (P : Share → Type 0) (views : List View) (id : ℕ) (x : Share) (xs : List Share) → ((j : ℕ) (v : View) → get_elem? views j ≡ some v → AllByRecursion P v.shares) → get_elem? views id ≡ some (view (x ∷ xs))
    → (j : ℕ) (v : View) → get_elem? (set views id (view xs) ++ alone x ∷ []) j ≡ some v → AllByRecursion P v.shares
each_split P views id x xs each at j v there = let mine = each id (view (x ∷ xs)) at in ⊎_elim
    (λ (old : get_elem? (set views id (view xs)) j ≡ some v). ⊎_elim
    (λ (t : (j ≡ id) × (view xs ≡ v)). subst (λ (y : View). AllByRecursion P y.shares) t.1 mine.1)
    (λ (t : (j ≢ id) × (get_elem? views j ≡ some v)). each j v t.1)
    (at_set views id j (view xs) v old))
    (λ (t : (j ≡ length (set views id (view xs))) × (alone x ≡ v)). subst (λ (y : View). AllByRecursion P y.shares) t.1 (mine.0, tt))
    (at_snoc_else (set views id (view xs)) (alone x) v j there)

pub each_join : (P : Share → Type 0) (views : List View) (id other : ℕ) (v w : View) → ((j : ℕ) (u : View) → get_elem? views j ≡ some u → AllByRecursion P u.shares) → get_elem? views id ≡ some v → get_elem? views other ≡ some w
    → (j : ℕ) (u : View) → get_elem? (set (set views id (both_of v w)) other nothing) j ≡ some u → AllByRecursion P u.shares
each_join P views id other v w each at there j u now = ⊎_elim
    (λ (t : (j ≡ other) × (nothing ≡ u)). subst (λ (y : View). AllByRecursion P y.shares) t.1 tt)
    (λ (t : (j ≢ other) × (get_elem? (set views id (both_of v w)) j ≡ some u)). ⊎_elim
    (λ (r : (j ≡ id) × (both_of v w ≡ u)). subst (λ (y : View). AllByRecursion P y.shares) r.1 (all_append P w.shares v.shares (each other w there) (each id v at)))
    (λ (r : (j ≢ id) × (get_elem? views j ≡ some u)). each j u r.1)
    (at_set views id j (both_of v w) u t.1))
    (at_set (set views id (both_of v w)) other j nothing u now)
