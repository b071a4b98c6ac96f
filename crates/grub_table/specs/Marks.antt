-- Who holds which task, by the list of takings and givings.
use Rattle.std.specs.Prelude.{◌≡◌, ℕ, ◌<◌, if◌then◌else◌, ◌==◌, List, ◌∷◌, ◌++◌, fold, Option, Some, None}
use Rattle.grub_table.specs.declared.view.Mark.{Mark}
use Rattle.grub_table.specs.declared.view.Mark.TheVariants.{Taken, Given}

-- who holds task t after a mark, where this pass held it before, or nobody
abbrev pub holder_after : ℕ → Option ℕ → Mark → Option ℕ
holder_after t holder (Taken i u) = if t == u then Some i else holder
holder_after t holder (Given i u) = if t == u then None else holder

-- who holds a task after these marks
abbrev pub holder_of : List Mark → ℕ → Option ℕ
holder_of marks t = fold (holder_after t) None marks

-- after these marks, only a task that nobody holds is taken, and only its holder gives it; n is the number of passes
abbrev pub IsLawfulMark : ℕ → List Mark → Mark → Type 0
IsLawfulMark n before (Taken i t) = (i < n) × (holder_of before t ≡ None)
IsLawfulMark n before (Given i t) = (i < n) × (holder_of before t ≡ Some i)

-- each mark is lawful after those before it
abbrev pub AreLawful : ℕ → List Mark → Type 0
AreLawful n marks = (before after : List Mark) (m : Mark) → marks ≡ before ++ m ∷ after → IsLawfulMark n before m

abbrev pub marker_of : Mark → ℕ
marker_of (Taken i t) = i
marker_of (Given i t) = i
