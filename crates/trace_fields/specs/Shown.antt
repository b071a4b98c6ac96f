-- A task that a line shows by its comm and pid.
use Rattle.std.specs.Prelude.{ℕ, List, length, take, codes, slice_range, Option, option_map, option_and_then}
use Rattle.std.specs.Borrow.{Bor}
use Rattle.trace_fields.specs.Words.{behind, number_field, place_of}
use Rattle.trace_fields.specs.declared.shown.Shown.{Shown}

-- a task, and the fields behind its comm
abbrev pub ShownWith : Type 0
ShownWith = Shown (List ℕ) × List ℕ

-- the task whose comm ends at a place of the text, and the fields from there on
abbrev pub shown_at : List ℕ → List ℕ → ℕ → Option ShownWith
shown_at pid_key text place =
    option_map (λ n. (record { comm = take place text; pid = n }, slice_range text place (length text))) (number_field pid_key (slice_range text place (length text)))

-- the task of the fields: its comm ends where the key of its pid begins
abbrev pub shown_by : List ℕ → List ℕ → List ℕ → Option ShownWith
shown_by comm_key pid_key fields =
    option_and_then (λ text. option_and_then (shown_at pid_key text) (place_of pid_key text)) (behind comm_key fields)

abbrev pub task_of : List ℕ → Option ShownWith
task_of fields = shown_by (codes "comm=") (codes "pid=") fields

-- the texts that the slices of the code point to
abbrev pub shown_text : Shown (Bor (List ℕ)) → Shown (List ℕ)
shown_text task = record { comm = task.comm.now; pid = task.pid }

abbrev pub shown_with_text : Shown (Bor (List ℕ)) × Bor (List ℕ) → ShownWith
shown_with_text s = (shown_text s.0, s.1.now)
