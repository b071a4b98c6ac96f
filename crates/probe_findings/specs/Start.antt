-- The law of starts, that this_bw of a runqueue begins with the bandwidth of its fair server, is asked where no task is older than the record.
use Rattle.std.specs.Prelude.{Bool, true, false, ◌&&◌, ◌||◌, not}
use Rattle.probe_findings.specs.declared.start_law.TaskSeen.{TaskSeen}

-- a task is older than the record: a line shows it in the class before it was admitted, and none shows it in another class
abbrev pub is_older : TaskSeen → Bool
is_older seen = seen.is_shown_first && not seen.is_of_another_class

abbrev pub nothing_seen : TaskSeen
nothing_seen = record { is_admitted = false; is_shown_first = false; is_of_another_class = false }

-- admitted
abbrev pub with_admission : TaskSeen → TaskSeen
with_admission seen = record seen { is_admitted = true }

-- a line shows it in the class
abbrev pub shown_in_class : TaskSeen → TaskSeen
shown_in_class seen = record seen { is_shown_first = seen.is_shown_first || not seen.is_admitted }

-- a line shows that it is of another class, or one of schedutil's threads
abbrev pub shown_elsewhere : TaskSeen → TaskSeen
shown_elsewhere seen = record seen { is_of_another_class = true }
