-- The words of a table at the start.
use Rattle.std.specs.Prelude.{◌≡◌, ℕ, ◌<◌, List, length, slice_index}
use Rattle.grub_book.specs.Server.{fresh_of}
use Rattle.grub_book.specs.Machine.{Machine, task_at}
use Rattle.grub_table.specs.Words.{server_word, params_word}
use Rattle.grub_table.specs.Layout.{queue_word_at, task_word_at}
use Rattle.grub_table.specs.inside.Layout.{word_count, server_word_at, params_word_at}

-- no bandwidth on the runqueues, the tasks away with block count 0, and the first n of them with a full budget
pub record AreOpeningWords (s : Machine) (n : ℕ) (words : List ℕ) : Type 0 where
  pub long : length words ≡ word_count s
  pub queues : (r : ℕ) → r < length s.queues → slice_index words (queue_word_at r) ≡ 0
  pub tasks : (t : ℕ) → t < length s.tasks → slice_index words (task_word_at s t) ≡ 0
  pub servers : (t : ℕ) → t < n → slice_index words (server_word_at s t) ≡ server_word (fresh_of (task_at s t))
  pub params : (t : ℕ) → t < n → slice_index words (params_word_at s t) ≡ params_word (task_at s t)
