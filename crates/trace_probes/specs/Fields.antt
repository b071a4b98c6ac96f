-- The fields of a line of a probe: words KEY=VALUE, in a fixed order; other words may stand between them.
use Rattle.std.specs.Prelude.{ℕ, Bool, true, false, not, ◌&&◌, ◌==◌, is_some, List, [], ◌∷◌, codes, Option, Some, None, if◌then◌else◌, option_map, option_and_then, slice_set}
use Rattle.std.specs.List.{before_first, list_any}
use Rattle.std.specs.Str.{bytes_eq}
use Rattle.trace_fields.specs.Numbers.{after}
use Rattle.trace_probes.specs.Numerals.{signed, unsigned}
use Rattle.trace_probes.specs.declared.field.Field.{Field}
use Rattle.trace_probes.specs.declared.field.Field.TheVariants.{Pid, Cpu, Flags, Clock, Runtime, Deadline, Throttled, Yielded, NonContending, DlRuntime, DlDeadline, DlPeriod, SchedFlags, OnRq, NormalPrio, Entity, ServedBy, DonorRuntime, DonorDeadline, DonorPeriod, ThisBw, RunningBw, ExtraBw, MaxBw, BwRatio, DeltaExec, ClockTask, ExecStart, State, Current, PolicyBefore, PolicyWanted, Delayed, TotalBw, DomainBw, Timer, FromNow, Expires, Function, Server, FairTasks, Earliest, Active, IsServer, MaxBwShown, FrequencyScale, CpuScale, TimerServedBy, RootDomain, Write}
use Rattle.trace_probes.specs.declared.field.FieldKind.{FieldKind}
use Rattle.trace_probes.specs.declared.field.FieldKind.TheVariants as kind
use Rattle.trace_probes.specs.declared.value.FieldValue.{FieldValue}
use Rattle.trace_probes.specs.declared.value.FieldValue.TheVariants as value
use Rattle.trace_data.specs.declared.fixed.TimerFunction.{TimerFunction}
use Rattle.trace_data.specs.declared.fixed.TimerFunction.TheVariants.{ZeroLag, Replenish, Other}

-- what stands before a field's value
abbrev pub key_of : Field → List ℕ
key_of Pid = codes "pid="
key_of Cpu = codes "cpu="
key_of Flags = codes "fl="
key_of Clock = codes "clk="
key_of Runtime = codes "q="
key_of Deadline = codes "d="
key_of Throttled = codes "thr="
key_of Yielded = codes "yld="
key_of NonContending = codes "non="
key_of DlRuntime = codes "rt="
key_of DlDeadline = codes "dl="
key_of DlPeriod = codes "pe="
key_of SchedFlags = codes "sf="
key_of OnRq = codes "oq="
key_of NormalPrio = codes "np="
key_of Entity = codes "se="
key_of ServedBy = codes "ps="
key_of DonorRuntime = codes "prt="
key_of DonorDeadline = codes "pdl="
key_of DonorPeriod = codes "ppe="
key_of ThisBw = codes "th="
key_of RunningBw = codes "ru="
key_of ExtraBw = codes "ex="
key_of MaxBw = codes "mx="
key_of BwRatio = codes "ra="
key_of DeltaExec = codes "dx="
key_of ClockTask = codes "ct="
key_of ExecStart = codes "es="
key_of State = codes "st="
key_of Current = codes "cur="
key_of PolicyBefore = codes "was="
key_of PolicyWanted = codes "po="
key_of Delayed = codes "del="
key_of TotalBw = codes "tot="
key_of DomainBw = codes "cap="
key_of Timer = codes "timer="
key_of FromNow = codes "tim="
key_of Expires = codes "exp="
key_of Function = codes "fn="
key_of Server = codes "srv="
key_of FairTasks = codes "nr="
key_of Earliest = codes "ea="
key_of Active = codes "act="
key_of IsServer = codes "srv="
key_of MaxBwShown = codes "mx="
key_of FrequencyScale = codes "fs="
key_of CpuScale = codes "cs="
key_of TimerServedBy = codes "ps="
key_of RootDomain = codes "rd="
key_of Write = codes "write="

-- what the value of a field is
abbrev pub kind_of : Field → FieldKind
kind_of Runtime = kind.Signed
kind_of Throttled = kind.Flag
kind_of Yielded = kind.Flag
kind_of NonContending = kind.Flag
kind_of NormalPrio = kind.Signed
kind_of DeltaExec = kind.Signed
kind_of Delayed = kind.Flag
kind_of FromNow = kind.Signed
kind_of Expires = kind.Signed
kind_of Function = kind.Function
kind_of Server = kind.Flag
kind_of Active = kind.Flag
kind_of Write = kind.Flag
kind_of IsServer = kind.Optional
kind_of MaxBwShown = kind.Optional
kind_of FrequencyScale = kind.Optional
kind_of CpuScale = kind.Optional
kind_of TimerServedBy = kind.Optional
kind_of field = kind.Unsigned

-- where the value of a field lies among all
abbrev pub place_of : Field → ℕ
place_of Pid = 0
place_of Cpu = 1
place_of Flags = 2
place_of Clock = 3
place_of Runtime = 4
place_of Deadline = 5
place_of Throttled = 6
place_of Yielded = 7
place_of NonContending = 8
place_of DlRuntime = 9
place_of DlDeadline = 10
place_of DlPeriod = 11
place_of SchedFlags = 12
place_of OnRq = 13
place_of NormalPrio = 14
place_of Entity = 15
place_of ServedBy = 16
place_of DonorRuntime = 17
place_of DonorDeadline = 18
place_of DonorPeriod = 19
place_of ThisBw = 20
place_of RunningBw = 21
place_of ExtraBw = 22
place_of MaxBw = 23
place_of BwRatio = 24
place_of DeltaExec = 25
place_of ClockTask = 26
place_of ExecStart = 27
place_of State = 28
place_of Current = 29
place_of PolicyBefore = 30
place_of PolicyWanted = 31
place_of Delayed = 32
place_of TotalBw = 33
place_of DomainBw = 34
place_of Timer = 35
place_of FromNow = 36
place_of Expires = 37
place_of Function = 38
place_of Server = 39
place_of FairTasks = 40
place_of Earliest = 41
place_of Active = 42
place_of IsServer = 43
place_of MaxBwShown = 44
place_of FrequencyScale = 45
place_of CpuScale = 46
place_of TimerServedBy = 47
place_of RootDomain = 48
place_of Write = 49

-- the function of a symbol, up to its +
abbrev pub timer_function : List ℕ → TimerFunction
timer_function symbol =
    if bytes_eq (before_first (λ b. b == 43) symbol) (codes "inactive_task_timer") then ZeroLag else
    (if bytes_eq (before_first (λ b. b == 43) symbol) (codes "dl_task_timer") then Replenish else Other)

abbrev pub flag_of : ℕ → Option Bool
flag_of n = if n == 0 then Some false else (if n == 1 then Some true else None)

-- the value of a field of this kind, from its text
abbrev pub value_of : FieldKind → List ℕ → Option FieldValue
value_of kind.Unsigned text = option_map (λ n. value.Unsigned n) (unsigned text)
value_of kind.Signed text = option_map (λ z. value.Signed z) (signed text)
value_of kind.Flag text = option_map (λ b. value.Flag b) (option_and_then flag_of (unsigned text))
value_of kind.Function text = Some (value.Function (timer_function text))
value_of kind.Optional text = option_map (λ n. value.Unsigned n) (unsigned text)

-- the value of a field, where its text was found, and the words behind it; else what is found later
abbrev pub value_found : FieldKind → Option (List ℕ) → List (List ℕ) → Option (FieldValue × List (List ℕ)) → Option (FieldValue × List (List ℕ))
value_found kind None words later = later
value_found kind (Some text) words later = option_map (λ v. (v, words)) (value_of kind text)

-- the value of a field in the first word that has its key, and the words behind it
abbrev pub next_value : Field → List (List ℕ) → Option (FieldValue × List (List ℕ))
next_value field [] = None
next_value field (word ∷ words) = value_found (kind_of field) (after (key_of field) word) words (next_value field words)

-- whether a word has the key of a field
abbrev pub has_field : Field → List (List ℕ) → Bool
has_field field words = list_any (λ word. is_some (after (key_of field) word)) words

abbrev pub is_optional_kind : FieldKind → Bool
is_optional_kind kind.Optional = true
is_optional_kind kind.Unsigned = false
is_optional_kind kind.Signed = false
is_optional_kind kind.Flag = false
is_optional_kind kind.Function = false

-- whether a line may lack a field
abbrev pub is_optional : Field → Bool
is_optional field = is_optional_kind (kind_of field)

-- the same; an optional field that no word has is absent, and the words stay
abbrev pub value_next : Field → List (List ℕ) → Option (FieldValue × List (List ℕ))
value_next field words = if is_optional field && not (has_field field words) then Some (value.Absent, words) else next_value field words

-- the values of these fields, one behind the other, beside those that are known; none where one is missing or wrong
abbrev pub values_with : List Field → List FieldValue → List (List ℕ) → Option (List FieldValue)
values_with [] values words = Some values
values_with (field ∷ fields) values words = option_and_then (λ v. values_with fields (slice_set values (place_of field) v.0) v.1) (value_next field words)
