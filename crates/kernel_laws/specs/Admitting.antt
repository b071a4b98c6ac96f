-- What the admitted tasks take from extra_bw of each CPU: the sum of floor (bw / N), modulo 2 ^ 64.
use Rattle.std.specs.Prelude.{ℕ, ◌≡◌, ◌^◌, ◌<◌, List, [], ◌∷◌, Some, slice_get}
use Rattle.kernel_rules.specs.Clock.{plus}
use Rattle.timer_tasks.specs.declared.task.DeadlineTask.{DeadlineTask}
use Rattle.timer_tasks.specs.Effects.{task_share_of}
use Rattle.timer_play.specs.States.{State, replaced}

abbrev pub total_share : List DeadlineTask → ℕ → ℕ
total_share [] cpus = 0
total_share (t ∷ ts) cpus = plus (task_share_of t cpus) (total_share ts cpus)

-- a CPU's extra_bw is its first one less what is taken
abbrev pub IsTaken : State → Type 0
IsTaken m = m.taken ≡ total_share m.tasks m.terms.setup.cpus

-- a share of 64 bits
abbrev pub Fits : DeadlineTask → ℕ → Type 0
Fits t cpus = task_share_of t cpus < 2 ^ 64

-- each event makes a task another, and it stays so
abbrev pub TakenStays : ℕ → DeadlineTask → DeadlineTask → State → Type 0
TakenStays n before t m =
    slice_get m.tasks n ≡ Some before → Fits before m.terms.setup.cpus → Fits t m.terms.setup.cpus → IsTaken m → IsTaken (replaced n t m)
