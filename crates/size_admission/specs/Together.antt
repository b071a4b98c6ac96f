-- What proposals come to together, and on which processors they fit, by their bandwidths in 1/2^20.
use Rattle.std.specs.Prelude.{◌≡◌, ℕ, ◌*◌, ◌/◌, ◌^◌, ◌<◌, ◌≤◌, ◌==◌, All, List, map, if◌then◌else◌}
use Rattle.std.specs.List.{sum_by}
use Rattle.size_admission.specs.declared.admission.Proposal.{Proposal}
use Rattle.size_admission.specs.declared.together.Placed.{Placed}

-- the bandwidth of a proposal, rounded down
abbrev pub bandwidth_of : Proposal → ℕ
bandwidth_of proposal = proposal.runtime * 2 ^ 20 / proposal.period

-- what a reservation takes of a processor
abbrev pub share_on : ℕ → Placed → ℕ
share_on processor one = if one.processor == processor then one.bandwidth else 0

-- what all of them take of it
abbrev pub load_on : ℕ → List Placed → ℕ
load_on processor placed = sum_by (share_on processor) placed

-- the bandwidths are on processors that are there, and on each they come to no more than its room
pub record IsPlaced (bandwidths : List ℕ) (placed : List Placed) (processors room : ℕ) : Type 0 where
  pub each : map (λ one. one.bandwidth) placed ≡ bandwidths
  pub there : All (λ one. one.processor < processors) placed
  pub within : (p : ℕ) → p < processors → load_on p placed ≤ room
