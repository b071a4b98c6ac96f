-- What the rule allows of what is known, it allows where accesses are counted too.
use Rattle.std.proofs.Common.{◌≡◌, ℕ, List, [], ◌∷◌, ◌++◌, map, length, arith, ◌<◌, refl, set, get_or, sym, ap, ◌∙◌, subst}
use Rattle.std.proofs.lemmas.List.{length-map, map-set}
use mathlib.Core.List.{map-append}
use mathlib.Core.Option.{Option, some}
use lib.ListN.{get_elem?}
use Rattle.atomic_table.specs.Table.{Allows, Final, Joins, Me, Seen, Splits, State, homes_after}
use Rattle.atomic_table.proofs.Lists.{at_map}
use Rattle.grub_table.specs.declared.view.Access.{Access}
use Rattle.grub_table.specs.declared.view.Access.TheVariants.{Load}
use Rattle.grub_table.specs.declared.view.Share.{Share}
use Rattle.grub_table.specs.declared.view.Terms.{Terms}
use Rattle.grub_table.specs.declared.view.Trail.{Trail}
use Rattle.grub_table.specs.declared.view.View.{View}
use Rattle.grub_table.specs.inside.Rule.{Kept}
use Rattle.grub_table.specs.inside.Trails.{Accesses, head_made}
use Rattle.grub_table.specs.inside.Trails.{KeptOf, each_after, joined, known, known_state, left_trail, only_made, right_trail, spent, tail_made, trail}
use Rattle.grub_table.specs.inside.Views.{behind, both_of, nothing, only_first, without_first}

pub only_one : (made : List Accesses) → 0 < length made → only_made made ≡ head_made made ∷ []
only_one [] lt = absurd (omega arith)
only_one (l ∷ ls) lt = refl

pub length_tails : (made : List Accesses) (shares : List Share) → length made ≡ length shares → length (each_after (tail_made made) (Load 0)) ≡ length (behind shares)
length_tails [] [] same = refl
length_tails [] (x ∷ xs) same = absurd (omega arith)
length_tails (l ∷ ls) [] same = absurd (omega arith)
length_tails (l ∷ ls) (x ∷ xs) same = omega (arith, same, length-map ls (λ (made : Accesses). made ++ Load 0 ∷ []))

abbrev view_of : Trail → View
view_of t = t.view

module _ {S : Type 0} where
  abbrev with_views : State S Trail → List ℕ → List (Option S) → List View → State S View
  with_views s words homes views = record { words = words; homes = homes; views = views }

  pub counted : (T : Terms) (slots id : ℕ) (me : Me S Trail) (i : ℕ) (f : ℕ → ℕ) (tells : ℕ → Me S View → Type 0) (a : ℕ → Access) → Allows (Kept T) slots id (known me) i f tells
      → Allows (KeptOf T) slots id me i f (λ n m'. tells n (known m') × (m'.0.made ≡ each_after me.0.made (a n)))
  counted T slots id me i f tells a allows s k long at range =
      let o = allows (known_state s) k long (at_map view_of s.views id me.0 at) range in
      let t : Trail = trail o.0 (each_after me.0.made (a (get_or s.words i 0))) in
      let same : map view_of (set s.views id t) ≡ set (map view_of s.views) id o.0 = map-set view_of s.views id t in
      (t, o.1, o.2, subst (λ vs. Kept T (with_views s (set s.words i (f (get_or s.words i 0))) (homes_after s.homes me.1 o.1) vs)) (sym same) o.3, (o.4, refl))

  pub counted_split : (T : Terms) (id : ℕ) (t : Trail) → Splits (Kept T {S = S}) id t.view (without_first t.view) (only_first t.view) → Splits (KeptOf T {S = S}) id t (left_trail t) (right_trail t)
  counted_split T id t splits s k at =
      let one : map view_of (set s.views id (left_trail t)) ≡ set (map view_of s.views) id (without_first t.view) = map-set view_of s.views id (left_trail t) in
      let same : map view_of (set s.views id (left_trail t) ++ right_trail t ∷ []) ≡ set (map view_of s.views) id (without_first t.view) ++ only_first t.view ∷ [] =
      map-append view_of (set s.views id (left_trail t)) (right_trail t ∷ []) ∙ ap (λ vs. vs ++ only_first t.view ∷ []) one in
      subst (λ vs. Kept T (with_views s s.words s.homes vs)) (sym same) (splits (known_state s) k (at_map view_of s.views id t at))

  pub counted_join : (T : Terms) (id : ℕ) (t : Trail) (other : ℕ) (u : Trail) → Joins (Kept T {S = S}) id t.view other u.view (both_of t.view u.view) nothing → Joins (KeptOf T {S = S}) id t other u (joined t u) spent
  counted_join T id t other u joins s k at apart there =
      let both : Trail = joined t u in
      let one : map view_of (set s.views id both) ≡ set (map view_of s.views) id both.view = map-set view_of s.views id both in
      let same : map view_of (set (set s.views id both) other spent) ≡ set (set (map view_of s.views) id both.view) other nothing = map-set view_of (set s.views id both) other spent ∙ ap (λ vs. set vs other nothing) one in
      let theirs = subst (λ vs. get_elem? vs other ≡ some u.view) one (at_map view_of (set s.views id both) other u there) in
      subst (λ vs. Kept T (with_views s s.words s.homes vs)) (sym same) (joins (known_state s) k (at_map view_of s.views id t at) apart theirs)

  pub counted_end : (T : Terms) (id : ℕ) (t : Trail) (words : List ℕ) (slots : List S) → Final (Seen (KeptOf T {S = S}) id t) words slots → Final (Seen (Kept T {S = S}) id t.view) words slots
  counted_end T id t words slots f = (known_state f.0, (f.1.0, at_map view_of f.0.views id t f.1.1), f.2, f.3, f.4)
