-- Whose a dl_task_timer is: a task's is started right after that task's charge, or set less than 0.3 s ahead; else it is a fair server's.
-- The kernel may give a task's memory, and so a timer's address, to a later task: an address is as a whole of tasks, or of a fair server.
use Rattle.std.specs.Prelude.{ℕ, ◌+◌, ◌-◌, ◌/◌, ◌^◌, Bool, ◌||◌, nat_lt, min, Option, Some, None, unwrap_or, is_some}
use Rattle.timer_record.specs.declared.lines.FirstLine.TheVariants.{Start, Another}
use Rattle.timer_record.specs.declared.lines.TheConstants.{SOON}
use Rattle.timer_record.specs.declared.lines.AddressLines.{AddressLines}
use Rattle.timer_record.specs.declared.lines.TimerLines.{TimerLines}
use Rattle.timer_record.specs.Votes.{more_of, no_vote, voted, voted_by}

abbrev pub unknown_address : AddressLines
unknown_address = record { first = None; starts = 0; after_charge = 0; soon = 0; cpu = no_vote }

abbrev pub unknown_timer : ℕ → TimerLines
unknown_timer address = record { address = address; task = no_vote }

-- more than half of its starts follow a charge, or are less than 0.3 s ahead
abbrev pub is_of_task_by : AddressLines → Bool
is_of_task_by t = nat_lt (t.starts / 2) t.after_charge || nat_lt (t.starts / 2) t.soon

-- a line that is no start
abbrev pub with_line_of : AddressLines → AddressLines
with_line_of t = record t { first = Some (unwrap_or t.first Another) }

-- a start on a CPU, so far ahead, after the charge of a task
abbrev pub with_start_of : AddressLines → ℕ → ℕ → Option ℕ → AddressLines
with_start_of t cpu ahead charged = record {
  first = Some (unwrap_or t.first Start);
  starts = min (t.starts + 1) (2 ^ 64 - 1);
  after_charge = more_of t.after_charge (is_some charged);
  soon = more_of t.soon (nat_lt ahead SOON);
  cpu = voted t.cpu cpu;
}

-- a start of a timer, after the charge of a task
abbrev pub started_after : TimerLines → Option ℕ → TimerLines
started_after t charged = record t { task = voted_by t.task charged }

-- the wake of a task follows its start
abbrev pub with_wake_of : TimerLines → ℕ → TimerLines
with_wake_of t task = record t { task = voted t.task task }
