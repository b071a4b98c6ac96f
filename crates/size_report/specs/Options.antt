-- What the options of `grubtrace size` say, and which of them says nothing that it may say. Durations are in microseconds.
use Rattle.std.specs.Prelude.{ℕ, ◌*◌, ◌/◌, ◌^◌, ◌==◌, ◌&&◌, not, Bool, nat_le, nat_lt, List, [], ◌∷◌, ◌++◌, length, map, codes, Option, Some, None, Result, Ok, Err, is_none, option_map, option_and_then, if◌then◌else◌}
use Rattle.std.specs.Option.{ok_or, option_map_or}
use Rattle.std.specs.List.{list_any}
use Rattle.std.specs.Path.{rsplit_once}
use Rattle.std.specs.Str.{bytes_eq}
use Rattle.grub_book.specs.Bandwidth.{Reservation, bandwidth_of, reservation_fits}
use Rattle.trace_fields.specs.Words.{text_of}
use Rattle.trace_probes.specs.Numerals.{numeral}
use Rattle.trace_options.specs.Settings.{and_then}
use Rattle.size_report.specs.declared.options.AskedTask.{AskedTask}
use Rattle.size_report.specs.declared.options.FaultKind.{FaultKind}
use Rattle.size_report.specs.declared.options.FaultKind.TheVariants as kind
use Rattle.size_report.specs.declared.options.OptionFault.{OptionFault}
use Rattle.size_report.specs.declared.options.SizeOptions.{SizeOptions}
use Rattle.size_report.specs.declared.options.SizeWords.{SizeWords}
use Rattle.size_report.specs.declared.sizing.TheConstants.{PERIOD_LEAST, PERIOD_MOST}

-- a number below 2^32
abbrev pub small_in : List ℕ → Option ℕ
small_in text = option_and_then (λ n. if nat_lt n (2 ^ 32) then Some n else None) (numeral 10 text)

-- the numbers of two texts
abbrev pub pair_of : List ℕ × List ℕ → Option (ℕ × ℕ)
pair_of parts = option_and_then (λ a. option_map (λ b. (a, b)) (small_in parts.1)) (small_in parts.0)

-- a task that is asked for
pub record Asked : Type 0 where
  pub name : List ℕ
  pub period : Option ℕ
  pub runtime : Option ℕ
  pub within : Option ℕ

abbrev pub asked_from : List ℕ → Option ℕ → Option ℕ → Asked
asked_from name period runtime = record { name = name; period = period; runtime = runtime; within = None }

abbrev pub is_period : ℕ → Bool
is_period period = nat_le PERIOD_LEAST period && nat_le period PERIOD_MOST

abbrev pub with_period : List ℕ → ℕ → Option Asked
with_period name p = if is_period p then Some (asked_from name (Some p) None) else None

-- a runtime of 2 to the period
abbrev pub with_runtime : List ℕ → ℕ × ℕ → Option Asked
with_runtime name pair =
    if is_period pair.1 && nat_le 2 pair.0 && nat_le pair.0 pair.1 then Some (asked_from name (Some pair.1) (Some pair.0)) else None

-- PERIOD or RUNTIME:PERIOD; 58 is the colon
abbrev pub reserving : List ℕ → List ℕ → Option (List ℕ × List ℕ) → Option Asked
reserving name text None = option_and_then (with_period name) (small_in text)
reserving name text (Some parts) = option_and_then (with_runtime name) (pair_of parts)

abbrev pub asked_by : List ℕ → Option (List ℕ × List ℕ) → Option Asked
asked_by word None = Some (asked_from word None None)
asked_by word (Some parts) = reserving parts.0 parts.1 (rsplit_once 58 parts.1)

abbrev pub named : Asked → Option Asked
named it = if length it.name == 0 then None else Some it

-- NAME, NAME=PERIOD or NAME=RUNTIME:PERIOD, whose name ends at the last sign of equality, which is 61
abbrev pub asked_in : List ℕ → Option Asked
asked_in word = option_and_then named (asked_by word (rsplit_once 61 word))

-- an option that says nothing that it may say, and its value or the name of its task
pub record Fault : Type 0 where
  pub kind : FaultKind
  pub value : List ℕ

abbrev pub fault : FaultKind → List ℕ → Fault
fault which text = record { kind = which; value = text }

abbrev pub has_name : List ℕ → List Asked → Bool
has_name name tasks = list_any (λ task. bytes_eq task.name name) tasks

-- these tasks and those of the words behind them, or the first word that says no task, or a name that came before
abbrev pub tasks_on : List Asked → List (List ℕ) → Result (List Asked) Fault
tasks_on tasks [] = Ok tasks
tasks_on tasks (word ∷ words) =
    option_map_or (λ task. if has_name task.name tasks then Err (fault kind.Twice task.name) else tasks_on (tasks ++ task ∷ []) words) (asked_in word) (Err (fault kind.Task word))

abbrev pub positive : List ℕ → ℕ → Option (List ℕ × ℕ)
positive name n = if n == 0 then None else Some (name, n)

-- a task's name, and in how long after its wake each job is to be done: NAME=US
abbrev pub within_in : List ℕ → Option (List ℕ × ℕ)
within_in word = option_and_then (λ parts. option_and_then (positive parts.0) (small_in parts.1)) (rsplit_once 61 word)

abbrev pub is_waiting : List ℕ → Asked → Bool
is_waiting name task = bytes_eq task.name name && is_none task.within

abbrev pub done_within : ℕ → Asked → Asked
done_within n task = record { name = task.name; period = task.period; runtime = task.runtime; within = Some n }

-- the tasks, of which one was given that; none where no task of this name waits for it
abbrev pub given_to : List ℕ → ℕ → List Asked → Option (List Asked)
given_to name n [] = None
given_to name n (task ∷ tasks) =
    if is_waiting name task then Some (done_within n task ∷ tasks) else option_map (λ rest. task ∷ rest) (given_to name n tasks)

abbrev pub given_by : List ℕ → List Asked → Option (List Asked)
given_by word tasks = option_and_then (λ it. given_to it.0 it.1 tasks) (within_in word)

-- the tasks after each `--within`, or the first that is no NAME=US of a task that is given
abbrev pub withins_on : List Asked → List (List ℕ) → Result (List Asked) Fault
withins_on tasks [] = Ok tasks
withins_on tasks (word ∷ words) =
    option_map_or (λ given. withins_on given words) (given_by word tasks) (Err (fault kind.Within word))

-- what each processor admits, RUNTIME of each PERIOD, in 1/2^20
abbrev pub most_from : ℕ × ℕ → Option ℕ
most_from pair =
    let most = pair.0 * 2 ^ 20 / pair.1 in
    if not (pair.1 == 0) && nat_le pair.0 pair.1 && nat_le 1 most then Some most else None

abbrev pub most_in : List ℕ → Option ℕ
most_in text = option_and_then most_from (option_and_then pair_of (rsplit_once 58 text))

abbrev pub reservation_from : ℕ × ℕ → Reservation
reservation_from pair = record { runtime = pair.0; period = pair.1 }

abbrev pub admitted : Reservation → Option ℕ
admitted it = if reservation_fits it then Some (bandwidth_of it) else None

-- what the fair server of a processor has of that: nothing, or RUNTIME:PERIOD that a book admits, in 1/2^20
abbrev pub fair_in : List ℕ → Option ℕ
fair_in text =
    if bytes_eq text (codes "none") then Some 0 else option_and_then (λ pair. admitted (reservation_from pair)) (option_and_then pair_of (rsplit_once 58 text))

-- a picture is of tasks that are asked for
abbrev pub picture_by : Option (List ℕ) → List Asked → Result (Option (List ℕ)) Fault
picture_by None tasks = Ok None
picture_by (Some path) [] = Err (fault kind.Picture path)
picture_by (Some path) (task ∷ tasks) = Ok (Some path)

-- what is asked of a record
pub record Said : Type 0 where
  pub tasks : List Asked
  pub late : ℕ
  pub margin : ℕ
  pub cpus : Option ℕ
  pub most : ℕ
  pub fair : ℕ
  pub picture : Option (List ℕ)

abbrev pub said_from : SizeWords → List Asked → ℕ → ℕ → Option (List ℕ) → Said
said_from words ts most fair path =
    record { tasks = ts; late = words.late; margin = words.margin; cpus = words.cpus; most = most; fair = fair; picture = path }

-- what all options say of these tasks, or the first one that is wrong
abbrev pub said_with : SizeWords → List Asked → Result Said Fault
said_with words ts =
    and_then (λ most. and_then (λ fair. and_then (λ path. Ok (said_from words ts most fair path))
    (picture_by (option_map text_of words.picture) ts))
    (ok_or (fair_in words.fair.now) (fault kind.Fair words.fair.now)))
    (ok_or (most_in words.rt.now) (fault kind.Rt words.rt.now))

-- what all options say, or the first one that is wrong
abbrev pub said_in : SizeWords → Result Said Fault
said_in words =
    and_then (said_with words) (and_then (λ asked. withins_on asked (map text_of words.withins.now)) (tasks_on [] (map text_of words.tasks.now)))

-- a task, options and a fault of the program, as what they say
abbrev pub asked_task : AskedTask → Asked
asked_task it = record { name = it.name.now; period = it.period; runtime = it.runtime; within = it.within }

abbrev pub said_by : SizeOptions → Said
said_by it =
    record { tasks = map asked_task it.tasks.items; late = it.late; margin = it.margin; cpus = it.cpus; most = it.most; fair = it.fair; picture = option_map text_of it.picture }

abbrev pub fault_by : OptionFault → Fault
fault_by it = fault it.kind it.value.now
