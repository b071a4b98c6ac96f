-- Which task of a runqueue is the first by a moment: by its deadline among those that contend, by its 0-lag time among those that wait for it.
use Rattle.std.specs.Prelude.{◌≡◌, ℕ, ◌<◌, ◌≤◌, ◌==◌, ◌&&◌, List, length, slice_index_or, Option, Some, None, IfSome, if◌then◌else◌}
use Rattle.grub_book.specs.Step.{lag_moment}
use Rattle.library_book.specs.Memory.{record_of}
use Rattle.library_book.specs.declared.first.Wanted.{Wanted}
use Rattle.library_book.specs.declared.first.Wanted.TheVariants.{Deadline, ZeroLag}
use Rattle.library_book.specs.declared.memory.NdTask.{NdTask}

-- the deadline of a task that contends on the runqueue
abbrev pub deadline_on : ℕ → NdTask → Option ℕ
deadline_on r x = if x.state == 1 && x.queue == r then Some x.deadline else None

-- the 0-lag time that a task on the runqueue waits for
abbrev pub timer_on : ℕ → NdTask → Option ℕ
timer_on r x = if x.state == 2 && x.queue == r then Some (lag_moment (record_of x)) else None

abbrev pub moment_on : Wanted → ℕ → NdTask → Option ℕ
moment_on Deadline r x = deadline_on r x
moment_on ZeroLag r x = timer_on r x

-- task t has the least moment, and no task before it has the same
pub record IsFirst (moment : NdTask → Option ℕ) (tasks : List NdTask) (t m : ℕ) : Type 0 where
  pub there : t < length tasks
  pub moment_is : (d : NdTask) → moment (slice_index_or tasks t d) ≡ Some m
  pub least : (k : ℕ) (d : NdTask) → k < length tasks → IfSome (moment (slice_index_or tasks k d)) (λ n. m ≤ n)
  pub first : (k : ℕ) (d : NdTask) → k < t → IfSome (moment (slice_index_or tasks k d)) (λ n. m < n)

-- no task has one
abbrev pub HasNone : (NdTask → Option ℕ) → List NdTask → Type 0
HasNone moment tasks = (k : ℕ) (d : NdTask) → k < length tasks → moment (slice_index_or tasks k d) ≡ None
