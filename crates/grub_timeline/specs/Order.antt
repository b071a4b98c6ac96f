-- The one order of the lines of several scripts.
use Rattle.std.specs.Prelude.{◌≡◌, ℕ, ◌+◌, ◌-◌, ◌<◌, ◌≤◌, ◌⊎◌, ◌==◌, List, [], ◌∷◌, filter, length, map}
use Rattle.std.specs.List.{AllByRecursion}
use Rattle.grub_plan.specs.Plans.{Line, script_at}
use Rattle.grub_timeline.specs.declared.order.PlacedLine.{PlacedLine}

-- the lines of one runqueue
abbrev pub lines_of : ℕ → List PlacedLine → List Line
lines_of r order = map (λ (p : PlacedLine). p.line) (filter (λ (p : PlacedLine). p.runqueue == r) order)

-- q does not come before p: by moment, and at one moment by file
abbrev pub IsNotLater : PlacedLine → PlacedLine → Type 0
IsNotLater p q = (p.line.m < q.line.m) ⊎ ((p.line.m ≡ q.line.m) × (p.runqueue ≤ q.runqueue))

-- no line comes before one in front of it
abbrev pub IsSorted : List PlacedLine → Type 0
IsSorted [] = Unit {0}
IsSorted (p ∷ ps) = AllByRecursion (IsNotLater p) ps × IsSorted ps

-- The stable sort of the scripts by moment: it has the lines of each script, all of them and in the order of the script, and no others; moments do not go
-- back, and lines of one moment go by file.
pub record IsOrder (scripts : List (List Line)) (order : List PlacedLine) : Type 0 where
  pub lines : (r : ℕ) → lines_of r order ≡ script_at scripts r
  pub sorted : IsSorted order

-- how many lines are left, where so many of each file are done
abbrev pub left : List (List Line) → List ℕ → ℕ
left [] done = 0
left (script ∷ scripts) [] = 0
left (script ∷ scripts) (n ∷ done) = (length script - n) + left scripts done
