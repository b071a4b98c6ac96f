-- What each pass knows and the accesses that it made, and how this is cut and joined with its seat.
use Rattle.std.specs.Prelude.{◌≡◌, ◌==◌, ℕ, List, [], ◌∷◌, ◌++◌, map, slice_index_or}
use Rattle.atomic_table.specs.Table.{Me, State, Step}
use Rattle.grub_table.specs.declared.view.Access.{Access}
use Rattle.grub_table.specs.declared.view.Access.TheVariants.{Load, Store, Exchange}
use Rattle.grub_table.specs.declared.view.Share.{Share}
use Rattle.grub_table.specs.declared.view.Terms.{Terms}
use Rattle.grub_table.specs.declared.view.Trail.{Trail}
use Rattle.grub_table.specs.declared.view.View.{View}
use Rattle.grub_table.specs.inside.Rule.{Kept}
use Rattle.grub_table.specs.inside.Views.{alone, both_of, first_view, nothing, only_first, without_first}

abbrev pub Accesses : Type 0
Accesses = List Access

-- the accesses of the first pass
abbrev pub head_made : List Accesses → Accesses
head_made made = slice_index_or made 0 []

abbrev pub trail : View → List Accesses → Trail
trail v made = record { view = v; made = made }

-- the trail of one pass
abbrev pub lone : Share → Accesses → Trail
lone x made = trail (alone x) (made ∷ [])

-- what a seat knows, and what all seats know, without the accesses
abbrev pub known : {S : Type 0} → Me S Trail → Me S View
known me = (me.0.view, me.1)

abbrev pub known_state : {S : Type 0} → State S Trail → State S View
known_state s = record { words = s.words; homes = s.homes; views = map (λ t. t.view) s.views }

-- the rule is about what is known
abbrev pub KeptOf : Terms → {S : Type 0} → State S Trail → Type 0
KeptOf T s = Kept T (known_state s)

-- one access more, by a seat of these passes
abbrev pub each_after : List Accesses → Access → List Accesses
each_after made a = map (λ l. l ++ a ∷ []) made

-- the trail at the start, of all passes, none of which has made an access
abbrev pub first_trail : Terms → Trail
first_trail T = trail (first_view T) (map (λ x. []) (first_view T).shares)

-- how a trail is cut and joined: each is a load of word 0
abbrev pub tail_made : List Accesses → List Accesses
tail_made [] = []
tail_made (l ∷ ls) = ls

abbrev pub only_made : List Accesses → List Accesses
only_made [] = []
only_made (l ∷ ls) = l ∷ []

abbrev pub left_trail : Trail → Trail
left_trail t = trail (without_first t.view) (each_after (tail_made t.made) (Load 0))

abbrev pub right_trail : Trail → Trail
right_trail t = trail (only_first t.view) (each_after (only_made t.made) (Load 0))

abbrev pub joined : Trail → Trail → Trail
joined t u = trail (both_of t.view u.view) (each_after (u.made ++ t.made) (Load 0))

abbrev pub spent : Trail
spent = trail nothing []

-- what a step tells of what is known, and that it was counted
module _ {S : Type 0} (tells : Step S → Me S View → ℕ → Me S View → Type 0) where
  abbrev pub counts_load : Step S → Me S Trail → ℕ → Me S Trail → Type 0
  counts_load st m found m' = tells st (known m) found (known m') × (m'.0.made ≡ each_after m.0.made (Load st.word))

  abbrev pub counts_store : Step S → Me S Trail → ℕ → Me S Trail → Type 0
  counts_store st m found m' = tells st (known m) found (known m') × (m'.0.made ≡ each_after m.0.made (Store st.word))

  abbrev pub counts_exchange : Step S → Me S Trail → ℕ → Me S Trail → Type 0
  counts_exchange st m found m' = tells st (known m) found (known m') × (m'.0.made ≡ each_after m.0.made (Exchange st.word (found == st.first)))
