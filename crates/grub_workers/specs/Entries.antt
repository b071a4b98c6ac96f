-- Which entries tell that a worker held a task.
use Rattle.std.specs.Prelude.{◌≡◌, ℕ, IsTrue}
use Rattle.grub_book.specs.Step.{is_under_claim}
use Rattle.grub_plan.specs.declared.entry.Ask.{Ask}
use Rattle.grub_plan.specs.declared.entry.Ask.TheVariants.{Call}
use Rattle.grub_plan.specs.declared.entry.Answer.{Answer}
use Rattle.grub_plan.specs.declared.entry.Answer.TheVariants.{Replied, Lost}

-- the ask is one on task t, whose worker held it: it was answered Lost, or by a reply under a claim
abbrev pub HeldTask : ℕ → Ask → Answer → Type 0
HeldTask t (Call u op) (Replied reply) = (u ≡ t) × IsTrue (is_under_claim reply)
HeldTask t (Call u op) Lost = u ≡ t
HeldTask t ask answer = ⊥
