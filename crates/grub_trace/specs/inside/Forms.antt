-- Which forms declare tasks.
use Rattle.std.specs.Prelude.{ℕ, Bool, true, false, List, [], ◌∷◌, Option, Some, None}
use Rattle.grub_trace.specs.Forms.{Form, at_moment, form_of, queue, task}
use Rattle.text_bytes.specs.Lines.{words_of}

abbrev pub is_task : Option Form → Bool
is_task None = false
is_task (Some (queue a b)) = false
is_task (Some (task n q p)) = true
is_task (Some (at_moment m act)) = false

-- the first whole line declares a task
abbrev pub begins_with_task : List (List ℕ) → Bool
begins_with_task [] = false
begins_with_task (last ∷ []) = false
begins_with_task (line ∷ next ∷ more) = is_task (form_of (words_of line))
