-- What is taken stays the sum as a task becomes another.
use Rattle.std.proofs.Common.{◌≡◌, ℕ, ◌^◌, ◌<◌, zero, suc, List, [], ◌∷◌, Some, slice_get, slice_set, sym, arith}
use Rattle.std.proofs.lemmas.Option.{none-some, same_Some}
use Rattle.kernel_rules.specs.Clock.{plus, less}
use Rattle.timer_tasks.specs.declared.task.DeadlineTask.{DeadlineTask}
use Rattle.timer_tasks.specs.Effects.{task_share_of}
use Rattle.timer_play.specs.States.{State, replaced}
use Rattle.kernel_laws.specs.Admitting.{total_share, Fits, TakenStays}

here : (x y rest : ℕ) → x < 2 ^ 64 → y < 2 ^ 64 → rest < 2 ^ 64 → plus y rest ≡ plus (less (plus x rest) x) y
here x y rest hx hy hr = omega arith

there : (x y z rest after : ℕ) → after ≡ plus (less rest y) z → plus x after ≡ plus (less (plus x rest) y) z
there x y z rest after e = omega arith

pub total_below : (ts : List DeadlineTask) (cpus : ℕ) → total_share ts cpus < 2 ^ 64
total_below [] cpus = omega arith
total_below (t ∷ ts) cpus = omega arith

pub total_set : (ts : List DeadlineTask) (n : ℕ) (before t : DeadlineTask) (cpus : ℕ)
    → slice_get ts n ≡ Some before → Fits before cpus → Fits t cpus
    → total_share (slice_set ts n t) cpus ≡ plus (less (total_share ts cpus) (task_share_of before cpus)) (task_share_of t cpus)
total_set [] n before t cpus e hb ht = absurd (none-some before e)
total_set (x ∷ xs) zero before t cpus e hb ht =
    rw (same_Some x before e) (here (task_share_of before cpus) (task_share_of t cpus) (total_share xs cpus) hb ht (total_below xs cpus))
total_set (x ∷ xs) (suc n) before t cpus e hb ht =
    there (task_share_of x cpus) (task_share_of before cpus) (task_share_of t cpus) (total_share xs cpus) (total_share (slice_set xs n t) cpus) (total_set xs n before t cpus e hb ht)

pub taken_stays : (n : ℕ) (before t : DeadlineTask) (m : State) → TakenStays n before t m
unfolding replaced
taken_stays n before t m e hb ht h =
    rw e (rw h (sym (total_set m.tasks n before t m.terms.setup.cpus e hb ht)))
