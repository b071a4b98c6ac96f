-- What is wrong with a line, where the lines before it are as they should be.
use Rattle.std.specs.Prelude.{ℕ, Bool, true, false, not, ◌&&◌, nat_le, nat_lt, ◌==◌, List, [], ◌∷◌, length, codes, Option, Some, None, if◌then◌else◌, is_none, slice_index, slice_index_or, option_map, unwrap_or, ◌-◌}
use Rattle.std.specs.List.{list_all}
use Rattle.std.specs.Str.{bytes_eq}
use Rattle.grub_book.specs.declared.setup.TheConstants.{TASKS_MAX}
use Rattle.grub_book.specs.Bandwidth.{reservation_fits, capacity_fits}
use Rattle.grub_trace.specs.declared.version.Version.{Version}
use Rattle.grub_trace.specs.declared.fault.Kind.{Kind}
use Rattle.grub_trace.specs.declared.fault.Kind.TheVariants.{BadHeader, BadLine, BadNumber, OutOfRange, DuplicateTask, MomentGoesBack, MissingQueue}
use Rattle.grub_trace.specs.Forms.{Form, queue, task, at_moment, form_of, is_number, numbers_of, reservation_value, capacity_value, version_of}
use Rattle.text_bytes.specs.Lines.{words_of}
use Rattle.text_bytes.specs.Digits.{value}
use Rattle.grub_trace.specs.Naming.{task_of}
use Rattle.grub_trace.specs.Tree.{is_moment, is_span, may_retune}
use Rattle.grub_plan.specs.declared.line.Act.TheVariants.{Join, Wake, Block, Leave, Exit, Run, Retune, Read}

-- ---- the tests of a line below the second

-- a queue line stands in the second line alone, a task line before the first moment, and a retune line in a file of version 2
abbrev pub is_allowed : Version → List ℕ → Form → Bool
is_allowed version moments (queue a b) = false
is_allowed version moments (task n q p) = length moments == 0
is_allowed version moments (at_moment m (Retune n q p)) = may_retune version
is_allowed version moments (at_moment m act) = true

-- each number is within its limit, where so many tasks were declared
abbrev pub is_in_range : ℕ → Form → Bool
is_in_range declared (queue a b) = capacity_fits (capacity_value a b)
is_in_range declared (task n q p) = nat_lt declared TASKS_MAX && reservation_fits (reservation_value q p)
is_in_range declared (at_moment m (Run n d)) = is_moment (value m) && is_span (value d)
is_in_range declared (at_moment m (Retune n q p)) = is_moment (value m) && reservation_fits (reservation_value q p)
is_in_range declared (at_moment m (Join n)) = is_moment (value m)
is_in_range declared (at_moment m (Wake n)) = is_moment (value m)
is_in_range declared (at_moment m (Block n)) = is_moment (value m)
is_in_range declared (at_moment m (Leave n)) = is_moment (value m)
is_in_range declared (at_moment m (Exit n)) = is_moment (value m)
is_in_range declared (at_moment m Read) = is_moment (value m)

abbrev pub is_fresh : List (List ℕ) → Form → Bool
is_fresh names (task n q p) = is_none (task_of names n)
is_fresh names form = true

-- the moment of the line before, or 0
abbrev pub last_of : List ℕ → ℕ
last_of moments = slice_index moments (length moments - 1)

abbrev pub is_timely : List ℕ → Form → Bool
is_timely moments (at_moment m act) = nat_le (last_of moments) (value m)
is_timely moments form = true

-- The first test that a form fails, after the names declared so far, in any file, and the moments so far, in this one.
abbrev pub form_fault : Version → List (List ℕ) → List ℕ → Form → Option Kind
form_fault version names moments f =
    if not (is_allowed version moments f) then Some BadLine
    else (if not (list_all is_number (numbers_of f)) then Some BadNumber
    else (if not (is_in_range (length names) f) then Some OutOfRange
    else (if not (is_fresh names f) then Some DuplicateTask
    else (if not (is_timely moments f) then Some MomentGoesBack else None))))

-- the first test that a line fails; what fits no form is a bad line
abbrev pub line_fault : Version → List (List ℕ) → List ℕ → List ℕ → Option Kind
line_fault version names moments line = unwrap_or (option_map (form_fault version names moments) (form_of (words_of line))) (Some BadLine)

-- ---- the first two lines

abbrev pub queue_form_fault : Option Form → Option Kind
queue_form_fault (Some (queue a b)) = if not (list_all is_number (a ∷ b ∷ [])) then Some BadNumber else (if not (capacity_fits (capacity_value a b)) then Some OutOfRange else None)
queue_form_fault form = Some BadLine

-- its first word is `queue`, and then it fits the form
abbrev pub queue_fault : List ℕ → Option Kind
queue_fault line = if not (bytes_eq (slice_index_or (words_of line) 0 []) (codes "queue")) then Some MissingQueue else queue_form_fault (form_of (words_of line))

abbrev pub header_fault : List ℕ → Option Kind
header_fault line = if is_none (version_of line) then Some BadHeader else None
