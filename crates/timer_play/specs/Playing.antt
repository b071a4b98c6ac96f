-- A record, played: what is observed of its timers.
use Rattle.std.specs.Prelude.{ℕ, nat_lt, if◌then◌else◌, List, [], ◌∷◌}
use Rattle.timer_record.specs.declared.event.KeptLine.{KeptLine}
use Rattle.timer_record.specs.declared.lines.KeptLines.{KeptLines}
use Rattle.timer_record.specs.declared.lines.TaskLines.{TaskLines}
use Rattle.timer_record.specs.declared.lines.TaskNote.{TaskNote}
use Rattle.timer_tasks.specs.declared.observation.Observation.{Observation}
use Rattle.timer_play.specs.declared.setup.RecordSetup.{RecordSetup}
use Rattle.timer_play.specs.declared.setup.RecordStart.{RecordStart}
use Rattle.timer_play.specs.Events.{step_in}
use Rattle.timer_play.specs.Notes.{told_in}
use Rattle.timer_play.specs.Opening.{first_state}
use Rattle.timer_play.specs.States.{State}

-- the notes whose moments have come
abbrev pub told_until : ℕ → List TaskNote → State → State
told_until at [] m = m
told_until at (x ∷ xs) m = if nat_lt at x.moment then m else told_until at xs (told_in x m)

-- those that are still to come
abbrev pub left_after : ℕ → List TaskNote → List TaskNote
left_after at [] = []
left_after at (x ∷ xs) = if nat_lt at x.moment then x ∷ xs else left_after at xs

-- line by line, each after the notes whose moments have come
abbrev pub played : List TaskLines → List TaskNote → List KeptLine → State → State
played tasks xs [] m = m
played tasks xs (k ∷ ks) m = played tasks (left_after k.at xs) ks (step_in tasks k (told_until k.at xs m))

-- all that is observed in a record
unfoldable pub observations_of : RecordSetup → RecordStart → KeptLines → ℕ → List Observation
observations_of s start lines within =
    (played lines.tasks.items lines.told.items lines.kept.items (first_state s start lines within)).seen
