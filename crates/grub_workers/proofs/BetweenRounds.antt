-- What a worker holds between two rounds of an ask.
use Rattle.std.proofs.Common.{◌≡◌, ℕ, ◌≤◌, true, List, []}
use Rattle.grub_book.specs.History.{HasChanged, calls_of}
use Rattle.grub_book.specs.declared.event.Event.{Event}
use Rattle.grub_book.specs.declared.op.Op.{Op}
use Rattle.grub_table.specs.declared.pass.Pass.{Pass}
use Rattle.grub_table.specs.declared.claim.Claim.{Claim}
use Rattle.grub_table.specs.declared.shared.Shared.{Shared}
use Rattle.grub_table.specs.Knowing.{Learns}
use Rattle.grub_table.specs.Calls.{IsPassOf, IsTaken, number_of, share_of, claim_share, claim_queue, claim_changes_sum, seen, marks}
use Rattle.grub_workers.specs.declared.asking.AskTurn.{AskTurn}
use Rattle.grub_workers.specs.declared.asking.AskTurn.TheVariants as turns
use Rattle.grub_workers.specs.inside.Evidence.{ShowsHolder}
use Rattle.grub_workers.specs.inside.Working.{machine}

-- the pass holds nothing, and after a round it knows who held the task
pub record IsFree (s : Shared) (round : ℕ) (p : Pass) (t : ℕ) (now : Pass) : Type 0 where
  pub of : IsPassOf s now
  pub learns : Learns (share_of p) (share_of now) [] []
  pub busy : 1 ≤ round → ShowsHolder (number_of p) t (seen now) (marks now)

-- the pass holds the task for this ask, nothing of which is in the history, and all tries of the last round were lost
pub record HasLost (s : Shared) (tries : ℕ) (p : Pass) (t : ℕ) (asked : Op) (c : Claim) : Type 0 where
  pub holding : IsTaken s p t asked c
  pub sum : claim_changes_sum c ≡ true
  pub earlier : List Event
  pub none_own : calls_of (number_of p) (claim_share c).seen ≡ calls_of (number_of p) earlier
  pub changes : HasChanged (machine s) (claim_queue c) earlier (claim_share c).seen tries

abbrev pub IsTurn : Shared → ℕ → ℕ → Pass → ℕ → Op → AskTurn → Type 0
IsTurn s tries round p t op (turns.Free now) = IsFree s round p t now
IsTurn s tries round p t op (turns.Held claim) = HasLost s tries p t op claim
