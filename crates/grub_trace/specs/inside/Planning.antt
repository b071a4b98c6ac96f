-- What is answered of files, and what is known of them once their heads were read.
use Rattle.std.specs.Prelude.{◌≡◌, ◌<◌, ◌≤◌, ℕ, List, [], Option, Result, Ok, Err, length, map}
use Rattle.grub_book.specs.declared.setup.TheConstants.{QUEUES_MAX}
use Rattle.grub_plan.specs.Plans.{PlanView}
use Rattle.grub_trace.specs.declared.fault.Kind.TheVariants.{MissingQueue, OutOfRange}
use Rattle.grub_trace.specs.declared.fault.TraceFault.{TraceFault}
use Rattle.grub_trace.specs.declared.fault.TraceFault.TheVariants.{At}
use Rattle.grub_trace.specs.declared.heads.Heads.{Heads}
use Rattle.grub_trace.specs.declared.raw.Head.{Head}
use Rattle.grub_trace.specs.declared.tasks.Tasks.{Tasks}
use Rattle.grub_trace.specs.inside.Bodies.{HaveHeads, head_above}
use Rattle.grub_trace.specs.inside.Heads.{GiveTogether}
use Rattle.grub_trace.specs.declared.raw.RawFile.{RawFile}
use Rattle.std.specs.Global.{Vec}
use Rattle.grub_trace.specs.declared.fault.Kind.{Kind}
use Rattle.grub_trace.specs.inside.Lines.{AreBodies}
use Rattle.grub_trace.specs.inside.Reading.{AllRead, Body, Faults, AnswersAs, AnswersOpening, IsIndexed, declarations, plan_from, read_from}

-- the plan, or the first fault; faults that come before memory is taken are answered, whatever memory there is
pub record IsPlanned (files : List (List ℕ)) (r : Result PlanView TraceFault) : Type 0 where
  pub answers : AnswersAs r (λ p. p) (plan_from files)
  pub many : QUEUES_MAX < length files → r ≡ Err (At OutOfRange QUEUES_MAX 1)
  pub nothing : length files ≡ 0 → r ≡ Err (At MissingQueue 0 1)
  pub opening : 0 < length files → length files ≤ QUEUES_MAX → AnswersOpening r (read_from (record { declared = []; files = [] }) 0 files)

-- as many files as may be, with these tasks and heads
pub record FilesGive (files : List (List ℕ)) (t : Tasks) (hs : List Head) (fault : Option TraceFault) : Type 0 where
  pub some : 0 < length files
  pub few : length files ≤ QUEUES_MAX
  pub together : GiveTogether (declarations t) hs fault (read_from (record { declared = []; files = [] }) 0 files)

-- all files, behind these tasks, or the first fault
abbrev pub Collects : Result (Vec RawFile) TraceFault → Tasks → Result AllRead (Kind × ℕ × ℕ) → Type 0
Collects (Ok files) t total = (bs : List Body) × AreBodies t bs files.items × (total ≡ Ok (record { declared = declarations t; files = bs }))
Collects (Err e) t total = Faults e total

-- their heads, behind which no fault of an opening is left
pub record AreHeadsOf (files : List (List ℕ)) (h : Heads) : Type 0 where
  pub together : FilesGive files h.tasks (map head_above h.bodies.items) h.fault
  pub opening : AnswersOpening {U = Heads} (Ok h) (read_from (record { declared = []; files = [] }) 0 files)
  pub heads : HaveHeads h.bodies.items
  pub indexed : IsIndexed h.tasks
