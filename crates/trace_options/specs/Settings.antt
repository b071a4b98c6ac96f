-- What the options of `grubtrace check` say, and which of them says nothing that it may say.
use Rattle.std.specs.Prelude.{ℕ, Bool, false, ◌*◌, ◌-◌, nat_le, List, [], ◌∷◌, ◌++◌, map, Option, Some, None, Result, Ok, Err, option_map, unwrap_or, if◌then◌else◌}
use Rattle.std.specs.Option.{ok_or, option_map_or}
use Rattle.std.specs.List.{list_any}
use Rattle.std.specs.Borrow.{Bor}
use Rattle.std.specs.Str.{bytes_eq}
use Rattle.trace_fields.specs.Words.{text_of}
use Rattle.trace_data.specs.declared.note.Kernel.{Kernel}
use Rattle.trace_data.specs.declared.note.Limit.{Limit}
use Rattle.trace_lines.specs.NoteWords.{kernel_of}
use Rattle.trace_lines.specs.declared.word.CpuRange.{CpuRange}
use Rattle.trace_options.specs.Words.{Task, domain_in, limit_in, moment_in, server_in, task_from, task_in}
use Rattle.trace_options.specs.declared.options.Arithmetic.{Arithmetic}
use Rattle.trace_options.specs.declared.options.Arithmetic.TheVariants as arithmetic
use Rattle.trace_options.specs.declared.options.CheckOption.{CheckOption}
use Rattle.trace_options.specs.declared.options.CheckOption.TheVariants as option
use Rattle.trace_options.specs.declared.options.CheckOptions.{CheckOptions}
use Rattle.trace_options.specs.declared.options.CheckWords.{CheckWords}
use Rattle.trace_options.specs.declared.options.TaskOption.{TaskOption}
use Rattle.trace_options.specs.declared.options.WrongOption.{WrongOption}
use Rattle.trace_options.specs.declared.words.FairServerOption.{FairServerOption}
use Rattle.trace_options.specs.declared.words.FairServerOption.TheVariants.{Usual}
use Rattle.trace_options.specs.declared.window.Window.{Window}

-- an option, and its value, which says nothing that it may say
pub record Wrong : Type 0 where
  pub option : CheckOption
  pub value : List ℕ

abbrev pub wrong : CheckOption → List ℕ → Wrong
wrong which text = record { option = which; value = text }

-- what follows from an answer, where it is no error
abbrev pub and_then : {A B E : Type 0} → (A → Result B E) → Result A E → Result B E
and_then f (Ok a) = f a
and_then f (Err e) = Err e

-- the value of an option, where it is given
abbrev pub asked : {A : Type 0} → (List ℕ → Option A) → CheckOption → Option (List ℕ) → Result (Option A) Wrong
asked read which None = Ok None
asked read which (Some text) = ok_or (option_map (λ value. Some value) (read text)) (wrong which text)

abbrev pub has_name : List ℕ → List Task → Bool
has_name name tasks = list_any (λ task. bytes_eq task.name name) tasks

-- these tasks and those of the words behind them, or the first word that says no task, or a name that came before
abbrev pub tasks_on : List Task → List (List ℕ) → Result (List Task) Wrong
tasks_on tasks [] = Ok tasks
tasks_on tasks (word ∷ words) =
    option_map_or (λ task. if has_name task.name tasks then Err (wrong option.Task word) else tasks_on (tasks ++ task ∷ []) words) (task_in word) (Err (wrong option.Task word))

-- the CPUs of the root domain by `--domain`, else by `--cpus`; none are said where neither is given
abbrev pub cpus_by : Option ℕ → Option (List ℕ) → Result (List CpuRange) Wrong
cpus_by cpus (Some text) = ok_or (domain_in text) (wrong option.Domain text)
cpus_by (Some count) None = Ok (record { first = 0; last = count - 1 } ∷ [])
cpus_by None None = Ok []

-- the kernel's own server of fair tasks, where none is given
abbrev pub server_by : Option FairServerOption → FairServerOption
server_by server = unwrap_or server Usual

abbrev pub arithmetic_of : Bool → Arithmetic
arithmetic_of is_documentation = if is_documentation then arithmetic.Documentation else arithmetic.Kernel

-- what is known beside a trace, and how it is checked; `within` is in nanoseconds
pub record Said : Type 0 where
  pub tasks : List Task
  pub domain : List CpuRange
  pub limit : Option Limit
  pub fair : FairServerOption
  pub kernel : Option Kernel
  pub within : ℕ
  pub arithmetic : Arithmetic
  pub by_timers : Bool
  pub explains : Bool

abbrev pub said_from : CheckWords → List Task → List CpuRange → Option Limit → FairServerOption → Option Kernel → Said
said_from words ts cpus most server version =
    record { tasks = ts; domain = cpus; limit = most; fair = server; kernel = version; within = words.within * 1000; arithmetic = arithmetic_of words.by_documentation; by_timers = words.by_timers; explains = words.explains }

abbrev pub value_of : Option (Bor (List ℕ)) → Option (List ℕ)
value_of value = option_map text_of value

-- what all options say, or the first one that is wrong
abbrev pub said_in : CheckWords → Result Said Wrong
said_in words =
    and_then (λ ts. and_then (λ cpus. and_then (λ most. and_then (λ server. and_then (λ version. Ok (said_from words ts cpus most (server_by server) version))
    (asked kernel_of option.Kernel (value_of words.kernel)))
    (asked server_in option.FairServer (value_of words.fair)))
    (asked limit_in option.Rt (value_of words.rt)))
    (cpus_by words.cpus (value_of words.domain)))
    (tasks_on [] (map text_of words.tasks.now))

-- a task, options and a wrong one of the program, as what they say
abbrev pub given_task : TaskOption → Task
given_task given = task_from given.name.now given.parameters

abbrev pub said_by : CheckOptions → Said
said_by it =
    record { tasks = map given_task it.tasks.items; domain = it.domain.items; limit = it.limit; fair = it.fair; kernel = it.kernel; within = it.within; arithmetic = it.arithmetic; by_timers = it.by_timers; explains = it.explains }

abbrev pub wrong_by : WrongOption → Wrong
wrong_by it = wrong it.option it.value.now

-- whether a part of a record ends before it begins, or as it begins
abbrev pub is_empty : Option ℕ → Option ℕ → Bool
is_empty begin end = option_map_or (λ b. option_map_or (λ e. nat_le e b) end false) begin false

abbrev pub window_from : Option (List ℕ) → Option ℕ → Option ℕ → Result Window Wrong
window_from text begin end =
    if is_empty begin end then Err (wrong option.To (unwrap_or text [])) else Ok (record { from = begin; to = end })

-- the part of a record from `--from` to `--to`, or the first of them that is wrong
abbrev pub window_in : Option (List ℕ) → Option (List ℕ) → Result Window Wrong
window_in from to =
    and_then (λ begin. and_then (λ end. window_from to begin end) (asked moment_in option.To to)) (asked moment_in option.From from)
