-- What the passes of a seat know, and how this is cut and joined with it.
use Rattle.std.specs.Prelude.{◌≡◌, ℕ, zero, suc, ◌<◌, List, [], ◌∷◌, ◌++◌}
use Rattle.std.specs.List.{AllByRecursion}
use Rattle.atomic_table.specs.Table.{Me}
use Rattle.grub_book.specs.History.{pass_of}
use Rattle.grub_book.specs.declared.event.Event.{Event}
use Rattle.grub_table.specs.declared.view.Mark.{Mark}
use Rattle.grub_table.specs.declared.view.Terms.{Terms}
use Rattle.grub_table.specs.declared.view.Share.{Share}
use Rattle.grub_table.specs.declared.view.Hold.{Hold}
use Rattle.grub_table.specs.declared.view.Hold.TheVariants.{Free}
use Rattle.grub_table.specs.declared.view.View.{View}
use Rattle.grub_table.specs.Marks.{marker_of}
use Rattle.grub_table.specs.Knowing.{GoesOn}
use Rattle.grub_table.specs.Histories.{IsHistory}

abbrev pub view : List Share → View
view xs = record { shares = xs }

abbrev pub share : Terms → ℕ → List Event → Hold → List Mark → Share
share T i seen hold marks = record { terms = T; number = i; seen = seen; hold = hold; marks = marks }

-- the share of the same pass, with what it knows now
abbrev pub holding : Share → List Event → Hold → List Mark → Share
holding x seen hold marks = share x.terms x.number seen hold marks

-- the view of one pass
abbrev pub alone : Share → View
alone x = view (x ∷ [])

-- the view of a spent seat
abbrev pub nothing : View
nothing = view []

abbrev pub behind : List Share → List Share
behind [] = []
behind (x ∷ xs) = xs

abbrev pub front : List Share → List Share
front [] = []
front (x ∷ xs) = x ∷ []

-- how a view is cut and joined
abbrev pub without_first : View → View
without_first v = view (behind v.shares)

abbrev pub only_first : View → View
only_first v = view (front v.shares)

abbrev pub both_of : View → View → View
both_of v w = view (w.shares ++ v.shares)

-- the shares of n new passes, from number k on
abbrev pub fresh : Terms → ℕ → ℕ → List Share
fresh T k zero = []
fresh T k (suc n) = share T k [] Free [] ∷ fresh T (suc k) n

-- the view at the start, of all passes
abbrev pub first_view : Terms → View
first_view T = view (fresh T 0 T.passes)

-- the share is of a pass of the table, which has seen a beginning of the history
pub record ShareOf (T : Terms) (h : List Event) (x : Share) : Type 0 where
  pub terms : x.terms ≡ T
  pub number : x.number < T.passes
  pub seen : GoesOn pass_of x.number x.seen h []

-- the pass knows a beginning of the marks
abbrev pub MarkedBy : List Mark → Share → Type 0
MarkedBy marks x = GoesOn marker_of x.number x.marks marks []

-- the shares stand in one history and in one list of marks
pub record StandTogether (xs : List Share) : Type 0 where
  pub terms : Terms
  pub history : List Event
  pub marks : List Mark
  pub is_history : IsHistory terms history
  pub known : AllByRecursion (ShareOf terms history) xs
  pub marked : AllByRecursion (MarkedBy marks) xs

abbrev pub Sat : Type 0 → Type 0
Sat S = Me S View
