-- The tasks that options give, and which of them a line shows.
use Rattle.std.specs.Prelude.{ℕ, Bool, true, false, ◌&&◌, ◌==◌, if◌then◌else◌, List, Option, Some, None, is_none}
use Rattle.std.specs.List.{list_any, position}
use Rattle.std.specs.Str.{bytes_eq}
use Rattle.trace_fields.specs.Numbers.{number}
use Rattle.trace_options.specs.declared.options.TaskOption.{TaskOption}
use Rattle.check_settings.specs.declared.sought.SoughtTask.{SoughtTask}

-- no line has shown it
abbrev pub unshown : TaskOption → SoughtTask
unshown given = record { given = given; pid = None }

-- a name of digits is a pid, and another one a comm
abbrev pub is_named_by : Option ℕ → List ℕ → ℕ → List ℕ → Bool
is_named_by (Some number) name pid comm = number == pid
is_named_by None name pid comm = bytes_eq name comm

abbrev pub is_named : List ℕ → ℕ → List ℕ → Bool
is_named name pid comm = is_named_by (number name) name pid comm

-- a line has shown it by this pid
abbrev pub is_pid : Option ℕ → ℕ → Bool
is_pid (Some shown) pid = shown == pid
is_pid None pid = false

abbrev pub is_shown_as : ℕ → SoughtTask → Bool
is_shown_as pid s = is_pid s.pid pid

-- no line has shown it, and it is the task of this pid and comm
abbrev pub is_sought_as : ℕ → List ℕ → SoughtTask → Bool
is_sought_as pid comm s = is_none s.pid && is_named s.given.name.now pid comm

-- the first such one, unless a line has shown a given task by this pid
abbrev pub place_of : ℕ → List ℕ → List SoughtTask → Option ℕ
place_of pid comm ss = if list_any (is_shown_as pid) ss then None else position (is_sought_as pid comm) ss
