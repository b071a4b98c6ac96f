use Rattle.std.proofs.Common.{ℕ, ◌<◌, ◌≤◌}
use Rattle.size_admission.specs.Together.{load_on}
use Rattle.size_admission.proofs.together.have_room.Given as goal

abbrev pub invariant-loop-processor : goal.invariant-loop-processor
invariant-loop-processor l = (p : ℕ) → p < l.processor → load_on p l.placed ≤ l.room
