-- What a pass knows of the history and of the marks, and how it learns more.
use Rattle.std.specs.Prelude.{◌≡◌, ◌==◌, ℕ, List, [], ◌++◌, filter}
use mathlib.Core.List.{IsPrefix}
use Rattle.grub_book.specs.History.{pass_of}
use Rattle.grub_book.specs.declared.event.Event.{Event}
use Rattle.grub_table.specs.declared.view.Mark.{Mark}
use Rattle.grub_table.specs.declared.view.Share.{Share}
use Rattle.grub_table.specs.Marks.{marker_of}

-- the list went on, and of what is by i just these items are new
pub record GoesOn {X : Type 0} (by : X → ℕ) (i : ℕ) (before after more : List X) : Type 0 where
  pub starts : IsPrefix before after
  pub own : filter (λ x. by x == i) after ≡ filter (λ x. by x == i) before ++ more

-- what the pass knows is a beginning of this history and of these marks, which have of it just its own
pub record Knows (x : Share) (history : List Event) (marks : List Mark) : Type 0 where
  pub seen : GoesOn pass_of x.number x.seen history []
  pub marked : GoesOn marker_of x.number x.marks marks []

-- the same pass knows more, and these are its own new events and marks
pub record Learns (x y : Share) (events : List Event) (more : List Mark) : Type 0 where
  pub number : y.number ≡ x.number
  pub seen : GoesOn pass_of x.number x.seen y.seen events
  pub marked : GoesOn marker_of x.number x.marks y.marks more
