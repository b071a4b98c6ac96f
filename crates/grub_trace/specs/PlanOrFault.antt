-- What reading files answers: their plan, or their first fault.
use Rattle.std.specs.Prelude.{◌≡◌, ℕ, ◌<◌, List, length, Result, Err, IfOk, IfErr, MatchResult}
use Rattle.grub_book.specs.declared.setup.TheConstants.{QUEUES_MAX}
use Rattle.grub_plan.specs.Limits.{PlanFits}
use Rattle.grub_plan.specs.Plans.{PlanView}
use Rattle.grub_trace.specs.declared.fault.Kind.{Kind}
use Rattle.grub_trace.specs.declared.fault.Kind.TheVariants.{MissingQueue, OutOfRange}
use Rattle.grub_trace.specs.declared.fault.TraceFault.{TraceFault}
use Rattle.grub_trace.specs.declared.fault.TraceFault.TheVariants.{At, NoMemory}
use Rattle.grub_trace.specs.FirstFault.{IsFault, IsOnly, IsTraceFault, OpeningFault}
use Rattle.grub_trace.specs.Meaning.{Reads}
use Rattle.grub_trace.specs.Naming.{plan_of}
use Rattle.grub_trace.specs.Tree.{Tree}

-- What is read is the plan of trees whose texts the files are (`read`), and keeps the limits; texts of such trees are read, unless
-- memory runs out (`only`). A fault is by the definitions (`fault`), and where there is one, it is answered and no other, unless
-- memory runs out (`answered`). Nothing grows before the first two lines were read, so too `many` files, `nothing`, and a fault in the
-- `opening` lines are answered, whatever memory there is.
pub record IsPlanOrFault (files : List (List ℕ)) (result : Result PlanView TraceFault) : Type 0 where
  pub read : IfOk result (λ p. (trees : List Tree) × Reads files trees × (p ≡ plan_of trees))
  pub only : (trees : List Tree) → Reads files trees → MatchResult result (λ p. p ≡ plan_of trees) (λ e. e ≡ NoMemory)
  pub limits : IfOk result PlanFits
  pub fault : IfErr result (IsTraceFault files)
  pub answered : (k : Kind) (f n : ℕ) → IsFault files k f n → MatchResult result (λ _. ⊥) (λ e. IsOnly e k f n)
  pub many : QUEUES_MAX < length files → result ≡ Err (At OutOfRange QUEUES_MAX 1)
  pub nothing : length files ≡ 0 → result ≡ Err (At MissingQueue 0 1)
  pub opening : (k : Kind) (n : ℕ) → OpeningFault files k n → result ≡ Err (At k 0 n)
