-- Notes at the head of a record: lines # grub: KIND .., in which words KEY=VALUE stand in any order, a comm last. A note that is wrong is none.
use Rattle.std.specs.Prelude.{ℕ, ◌==◌, nat_eq, List, length, take, codes, slice_range, Option, Some, None, if◌then◌else◌, option_map, option_and_then}
use Rattle.std.specs.List.{starts_with}
use Rattle.std.specs.Str.{bytes_eq}
use Rattle.text_bytes.specs.Lines.{word_of}
use Rattle.trace_fields.specs.Numbers.{after, point_text}
use Rattle.trace_fields.specs.Words.{behind, place_of, without_spaces}
use Rattle.trace_probes.specs.Numerals.{unsigned}
use Rattle.trace_data.specs.declared.note.Kernel.{Kernel}
use Rattle.trace_data.specs.declared.note.Limit.{Limit}
use Rattle.trace_data.specs.declared.note.Limit.TheVariants.{MaxBw}
use Rattle.trace_data.specs.declared.note.Policy.{Policy}
use Rattle.trace_data.specs.declared.note.Policy.TheVariants as policy
use Rattle.trace_data.specs.declared.note.TraceNote.TheVariants as note
use Rattle.trace_data.specs.declared.quantities.Sums.{Sums}
use Rattle.trace_lines.specs.NoteWords.{is_domain, kernel_of, number_in, optional, optional_sum, rt_limit, server_in, small, word_in}
use Rattle.trace_lines.specs.declared.note.Noted.{Noted}
use Rattle.trace_lines.specs.declared.note.Noted.TheVariants as noted

abbrev pub kernel_by : Option (List ℕ) → Option (Option Kernel)
kernel_by None = Some None
kernel_by (Some word) = option_map (λ k. Some k) (kernel_of word)

abbrev pub kernel_in : List ℕ → Option (Option Kernel)
kernel_in text = kernel_by (word_in (codes "kernel=") text)

abbrev pub limit_by_rt : Option (List ℕ) → Option (Option Limit)
limit_by_rt None = Some None
limit_by_rt (Some word) = option_map (λ l. Some l) (rt_limit word)

abbrev pub limit_by : Option (List ℕ) → Option (List ℕ) → Option (Option Limit)
limit_by None rt = limit_by_rt rt
limit_by (Some word) rt = option_map (λ n. Some (MaxBw n)) (unsigned word)

-- max-bw=N, else rt=RUNTIME:PERIOD, else nothing
abbrev pub limit_of : List ℕ → Option (Option Limit)
limit_of text = limit_by (word_in (codes "max-bw=") text) (word_in (codes "rt=") text)

abbrev pub domain_by : Option (List ℕ) → Option (Option (List ℕ))
domain_by None = Some None
domain_by (Some word) = if is_domain word then Some (Some word) else None

abbrev pub domain_of : List ℕ → Option (Option (List ℕ))
domain_of text = domain_by (word_in (codes "domain=") text)

abbrev pub head_with : List ℕ → Option (Noted (List ℕ))
head_with text =
    option_and_then (λ k. option_and_then (λ l. option_and_then (λ t. option_map (λ d. noted.Head (note.Head k l t) d (word_in (codes "kernel=") text)) (domain_of text)) (optional_sum (codes "total-bw=") text)) (limit_of text)) (kernel_in text)

-- notes 1 kernel=.. domain=.. max-bw=.. total-bw=..
abbrev pub head_note : List ℕ → Option (Noted (List ℕ))
head_note text = if bytes_eq (word_of (without_spaces text)) (codes "1") then head_with text else None

abbrev pub sums : List ℕ → Option Sums
sums text =
    option_and_then (λ a. option_and_then (λ b. option_map (λ c. record { this_bw = a; running_bw = b; extra_bw = c }) (number_in (codes "extra=") text)) (number_in (codes "running=") text)) (number_in (codes "this=") text)

-- cpu N this=.. running=.. extra=.. rd=.. server=..
abbrev pub runqueue_note : List ℕ → Option (Noted (List ℕ))
runqueue_note text =
    option_and_then (λ c. option_and_then (λ s. option_and_then (λ d. option_map (λ f. noted.Other (note.Runqueue c s d f)) (server_in text)) (optional (codes "rd=") text)) (sums text)) (option_and_then small (unsigned (word_of (without_spaces text))))

-- capacity cpu=.. of=..
abbrev pub capacity_note : List ℕ → Option (Noted (List ℕ))
capacity_note text =
    option_and_then (λ c. option_map (λ n. noted.Other (note.Capacity c n)) (number_in (codes "of=") text)) (option_and_then small (number_in (codes "cpu=") text))

abbrev pub at_by : List ℕ → Option (Option ℕ)
at_by word = if bytes_eq word (codes "start") then Some None else option_map (λ n. Some n) (point_text word)

-- at=start, or a moment
abbrev pub at_of : List ℕ → Option (Option ℕ)
at_of text = option_and_then at_by (word_in (codes "at=") text)

abbrev pub reservation : List ℕ → Option Policy
reservation text =
    option_and_then (λ r. option_and_then (λ d. option_and_then (λ p. option_map (λ f. policy.Deadline (record { dl_runtime = r; dl_deadline = d; dl_period = p; flags = f })) (number_in (codes "flags=") text)) (number_in (codes "period=") text)) (number_in (codes "deadline=") text)) (number_in (codes "runtime=") text)

abbrev pub policy_by : Option (List ℕ) → List ℕ → Option Policy
policy_by None text = reservation text
policy_by (Some word) text = option_and_then (λ n. if n == 6 then reservation text else Some policy.Other) (unsigned word)

-- a reservation, or policy=N of another class
abbrev pub policy_of : List ℕ → Option Policy
policy_of text = policy_by (word_in (codes "policy=") text) text

abbrev pub task_with : List ℕ → List ℕ → Option (Noted (List ℕ))
task_with text comm =
    option_and_then (λ p. option_and_then (λ a. option_and_then (λ b. option_and_then (λ c. option_map (λ w. noted.Task (note.Task p a b c w) p comm) (policy_of text)) (option_and_then small (number_in (codes "cpu=") text))) (optional (codes "by=") text)) (at_of text)) (number_in (codes "pid=") text)

-- task pid=.. at=.. by=.. cpu=.. .. comm=..; one that begins otherwise, as in older records, tells nothing
abbrev pub task_note : List ℕ → Option (Noted (List ℕ))
task_note text =
    if starts_with nat_eq (without_spaces text) (codes "pid=") then option_and_then (λ place. option_and_then (λ comm. task_with (take place text) comm) (behind (codes "comm=") text)) (place_of (codes "comm=") text) else Some noted.Quiet

-- end max-bw=.. total-bw=..
abbrev pub end_note : List ℕ → Option (Noted (List ℕ))
end_note text =
    option_and_then (λ l. option_map (λ t. noted.Other (note.End l t)) (optional_sum (codes "total-bw=") text)) (limit_of text)

-- lost N missed M
abbrev pub lost_note : List ℕ → Option (Noted (List ℕ))
lost_note text =
    option_and_then (λ n. option_map (λ m. noted.Lost (record { lines = n; missed = m })) (number_in (codes "missed ") text)) (unsigned (word_of (without_spaces text)))

-- a note of another kind tells nothing
abbrev pub noted_by : List ℕ → List ℕ → Option (Noted (List ℕ))
noted_by kind text =
    if bytes_eq kind (codes "notes") then head_note text else
    (if bytes_eq kind (codes "cpu") then runqueue_note text else
    (if bytes_eq kind (codes "capacity") then capacity_note text else
    (if bytes_eq kind (codes "log") then Some (noted.Warning (without_spaces text)) else
    (if bytes_eq kind (codes "governor") then Some (noted.Governor (without_spaces text)) else
    (if bytes_eq kind (codes "task") then task_note text else
    (if bytes_eq kind (codes "end") then end_note text else
    (if bytes_eq kind (codes "lost") then lost_note text else Some noted.Quiet)))))))

abbrev pub note_by : Option (List ℕ) → Option (Noted (List ℕ))
note_by None = Some noted.Quiet
note_by (Some text) = noted_by (word_of text) (slice_range text (length (word_of text)) (length text))

-- what a line that begins with # says
abbrev pub note_of : List ℕ → Option (Noted (List ℕ))
note_of line = note_by (after (codes "# grub: ") line)
