-- Which word of the row is whose. The words that are stepped on are so far apart that those of different runqueues or tasks share no cache line.
use Rattle.std.specs.Prelude.{ℕ, ◌+◌, ◌*◌, length, Bool}
use Rattle.grub_book.specs.Machine.{Machine}
use Rattle.grub_book.specs.declared.place.Record.{Record}
use Rattle.grub_table.specs.Words.{task_word}

-- how many words a runqueue or a task has to itself
abbrev pub spacing : ℕ
spacing = 16

abbrev pub queue_word_at : ℕ → ℕ
queue_word_at r = spacing * r

abbrev pub task_word_at : Machine → ℕ → ℕ
task_word_at s t = spacing * (length s.queues + t)

-- the task word of a task with this record, whether somebody holds it or not
abbrev pub shown : Record → Bool → ℕ
shown x claimed = task_word x.place x.count claimed
