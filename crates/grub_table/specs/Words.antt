-- The words of readings, tasks, servers and reservations, and the values that have one: this project's profile.
-- Bit 0 is the lowest, and a bit that no line names is 0.
use Rattle.std.specs.Prelude.{ℕ, ◌+◌, ◌*◌, ◌^◌, ◌<◌, ◌≤◌, Bool, if◌then◌else◌, ⊤}
use Rattle.grub_book.specs.declared.rules.TheConstants.{COUNT_MAX}
use Rattle.grub_book.specs.declared.setup.TheConstants.{QUEUES_MAX}
use Rattle.grub_book.specs.declared.params.TheConstants.{PERIOD_MAX}
use Rattle.grub_book.specs.Bandwidth.{Reservation}
use Rattle.grub_book.specs.declared.server.Server.{Server}
use Rattle.grub_book.specs.declared.event.Reading.{Reading}
use Rattle.grub_book.specs.declared.place.State.TheVariants.{Contending, NonContending, Inactive}
use Rattle.grub_book.specs.declared.place.Place.{Place}
use Rattle.grub_book.specs.declared.place.Place.TheVariants.{Away, Gone, On}
use Rattle.grub_table.specs.declared.task.TaskWord.{TaskWord}

-- a reading has running_bw in bits 0 to 31, and this_bw in bits 32 to 63
unfoldable pub queue_word : Reading → ℕ
queue_word now = now.running + 2 ^ 32 * now.this

-- a server has its budget in bits 0 to 31, and its deadline in bits 32 to 63
unfoldable pub server_word : Server → ℕ
server_word s = s.q + 2 ^ 32 * s.d

-- a reservation has its runtime in bits 0 to 31, and its period in bits 32 to 63
unfoldable pub params_word : Reservation → ℕ
params_word p = p.runtime + 2 ^ 32 * p.period

-- bits 0 to 2 of a task's word
abbrev pub state_code : Place → ℕ
state_code Away = 0
state_code (On r Contending) = 1
state_code (On r NonContending) = 2
state_code (On r Inactive) = 3
state_code Gone = 4

-- bit 3 of a task's word
abbrev pub claim_bit : Bool → ℕ
claim_bit claimed = if claimed then 1 else 0

-- bits 4 to 11 of a task's word
abbrev pub queue_code : Place → ℕ
queue_code (On r state) = r
queue_code place = 0

-- a task's word has the block count in bits 12 to 35
unfoldable pub task_word : Place → ℕ → Bool → ℕ
task_word place count claimed = state_code place + 2 ^ 3 * claim_bit claimed + 2 ^ 4 * queue_code place + 2 ^ 12 * count

-- readings that have a word
pub record QueueFits (now : Reading) : Type 0 where
  pub running : now.running ≤ now.this
  pub this : now.this ≤ 2 ^ 20

-- servers that have a word
pub record ServerFits (s : Server) : Type 0 where
  pub some : 1 ≤ s.q
  pub most : s.q ≤ PERIOD_MAX

-- places that a task's word can name
abbrev pub PlaceFits : Place → Type 0
PlaceFits (On r state) = r < QUEUES_MAX
PlaceFits place = ⊤

-- tasks that have a word
pub record TaskFits (t : TaskWord) : Type 0 where
  pub place : PlaceFits t.place
  pub count : t.count ≤ COUNT_MAX
