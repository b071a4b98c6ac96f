-- How many observations there are of a kind, what they come to, and how far they are off.
use Rattle.std.specs.Prelude.{ℕ, ◌≡◌, ◌+◌, ◌-◌, ◌/◌, ◌^◌, min, Bool, true, false, ◌&&◌, ◌==◌, ℤ, pos, List, length, map, filter, count_by, slice_get, unwrap_or, IsPermutation, IsSorted}
use Rattle.std.specs.Ordering.{int_cmp}
use Rattle.timer_tasks.specs.declared.observation.ObservedAnswer.{ObservedAnswer}
use Rattle.timer_tasks.specs.declared.observation.ObservedAnswer.TheVariants.{Agrees, Differs, End, Unknown, Edge, Gap}
use Rattle.timer_tasks.specs.declared.observation.TimerKind.{TimerKind}
use Rattle.timer_tasks.specs.declared.observation.TimerKind.TheVariants.{Block, Replenish}
use Rattle.timer_tasks.specs.declared.observation.Observation.{Observation}
use Rattle.timer_verdict.specs.declared.numbers.KindNumbers.{KindNumbers}

abbrev pub is_same_kind : TimerKind → TimerKind → Bool
is_same_kind Block Block = true
is_same_kind Replenish Replenish = true
is_same_kind _ _ = false

abbrev pub is_kind : TimerKind → Observation → Bool
is_kind kind o = is_same_kind kind o.kind

abbrev pub number_of : ObservedAnswer → ℕ
number_of Agrees = 0
number_of Differs = 1
number_of End = 2
number_of Unknown = 3
number_of Edge = 4
number_of Gap = 5

abbrev pub comes_to_of : TimerKind → ObservedAnswer → Observation → Bool
comes_to_of kind answer o = is_kind kind o && number_of o.answer == number_of answer

abbrev pub is_compared_answer : ObservedAnswer → Bool
is_compared_answer Agrees = true
is_compared_answer Differs = true
is_compared_answer End = false
is_compared_answer Unknown = false
is_compared_answer Edge = false
is_compared_answer Gap = false

abbrev pub is_compared : Observation → Bool
is_compared o = is_compared_answer o.answer

abbrev pub is_compared_kind : TimerKind → Observation → Bool
is_compared_kind kind o = is_kind kind o && is_compared o

-- how many of the observations of a kind come to which answer
pub record AreCounts (n : KindNumbers) (kind : TimerKind) (os : List Observation) : Type 0 where
  pub all : n.all ≡ count_by (is_kind kind) os
  pub agree : n.agree ≡ count_by (comes_to_of kind Agrees) os
  pub differ : n.differ ≡ count_by (comes_to_of kind Differs) os
  pub ends : n.ends ≡ count_by (comes_to_of kind End) os
  pub unknown : n.unknown ≡ count_by (comes_to_of kind Unknown) os
  pub edges : n.edges ≡ count_by (comes_to_of kind Edge) os
  pub gaps : n.gaps ≡ count_by (comes_to_of kind Gap) os

-- how many are compared
abbrev pub compared_of : KindNumbers → ℕ
compared_of n = min (n.agree + n.differ) (2 ^ 64 - 1)

-- the differences of those that are compared
abbrev pub differences_of : TimerKind → List Observation → List ℤ
differences_of kind os = map (λ o. o.difference) (filter (is_compared_kind kind) os)

-- 0 where there is none
abbrev pub at : ℕ → List ℤ → ℤ
at place ds = unwrap_or (slice_get ds place) (pos 0)

-- how far differences lie apart. Of an even number the median is the greater of the two in the middle
pub record AreSpread (n : KindNumbers) (ds : List ℤ) : Type 0 where
  pub sorted : List ℤ
  pub ascending : IsSorted int_cmp sorted
  pub same : IsPermutation ds sorted
  pub least : n.least ≡ at 0 sorted
  pub median : n.median ≡ at (length sorted / 2) sorted
  pub high : n.high ≡ at (length sorted - 1 - (length sorted - 1) / 100) sorted
  pub greatest : n.greatest ≡ at (length sorted - 1) sorted

pub record AreNumbers (n : KindNumbers) (kind : TimerKind) (os : List Observation) : Type 0 where
  pub counts : AreCounts n kind os
  pub spread : AreSpread n (differences_of kind os)
