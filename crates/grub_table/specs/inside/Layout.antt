-- Where the server word and the parameter word of a task lie, and what they are.
use Rattle.std.specs.Prelude.{ℕ, ◌+◌, ◌*◌, length}
use Rattle.grub_book.specs.Machine.{Machine}
use Rattle.grub_book.specs.declared.place.Record.{Record}
use Rattle.grub_table.specs.Words.{server_word, params_word}
use Rattle.grub_table.specs.declared.view.Stored.{Stored}
use Rattle.grub_table.specs.Layout.{spacing, task_word_at}

abbrev pub word_count : Machine → ℕ
word_count s = spacing * (length s.queues + length s.tasks)

abbrev pub server_word_at : Machine → ℕ → ℕ
server_word_at s t = task_word_at s t + 1

abbrev pub params_word_at : Machine → ℕ → ℕ
params_word_at s t = task_word_at s t + 2

-- its server word and its parameter word
abbrev pub stored_of : Record → Stored
stored_of x = record { server = server_word x.server; params = params_word x.params }
