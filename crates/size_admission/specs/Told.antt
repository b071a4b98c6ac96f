-- What is printed of all proposals together.
use Rattle.std.specs.Prelude.{◌≡◌, ℕ, ◌-◌, ◌≤◌, min, All, List, ◌++◌, map, codes, Option, IfSome}
use Rattle.std.specs.List.{sum_by}
use Rattle.size_admission.specs.Texts.{admission_text, in_time_text, placed_text}
use Rattle.size_admission.specs.Together.{IsPlaced, bandwidth_of}
use Rattle.size_admission.specs.declared.admission.Proposal.{Proposal}
use Rattle.size_admission.specs.declared.admission.RootDomain.{RootDomain}
use Rattle.size_admission.specs.declared.together.Placed.{Placed}

-- the table of the proposals, what their sum and the greatest of them come to, and the processors on which they fit
unfoldable pub all_text : List ℕ → ℕ → ℕ → RootDomain → List ℕ → List ℕ
all_text rows sum greatest machine placed =
    codes "\nall proposals\n" ++ rows ++ admission_text sum machine ++ in_time_text sum greatest machine ++ placed

-- the sum is that of the proposals, no bandwidth is above the greatest, and each processor that is told has room for the tasks on it
pub record TellsAll (proposals : List Proposal) (machine : RootDomain) (old new : List ℕ) : Type 0 where
  pub rows : List ℕ
  pub placed : Option (List Placed)
  pub greatest : ℕ
  pub most : All (λ p. bandwidth_of p ≤ greatest) proposals
  pub fits : IfSome placed (λ v. IsPlaced (map bandwidth_of proposals) v machine.processors (machine.most - machine.fair))
  pub text : new ≡ old ++ all_text rows (min (sum_by bandwidth_of proposals) 18446744073709551615) greatest machine (placed_text proposals placed machine.processors)
