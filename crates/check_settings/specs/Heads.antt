-- What options and notes say of the kernel that was recorded: an option stands above a note.
use Rattle.std.specs.Prelude.{ℕ, pos, int_lt, zero, suc, ◌+◌, ◌-◌, ◌^◌, min, max, Bool, true, false, not, ◌&&◌, ◌||◌, nat_eq, nat_le, ◌==◌, if◌then◌else◌, List, [], ◌∷◌, ◌++◌, length, codes, Option, Some, None, is_some, option_and_then, option_map, slice_get, unwrap_or}
use Rattle.std.specs.Int.{w64, cast_unsigned}
use Rattle.std.specs.List.{list_any, starts_with}
use Rattle.trace_lines.specs.declared.word.CpuRange.{CpuRange}
use Rattle.trace_options.specs.declared.options.Arithmetic.{Arithmetic}
use Rattle.trace_options.specs.declared.options.Arithmetic.TheVariants as arithmetic
use Rattle.trace_options.specs.declared.options.CheckOptions.{CheckOptions}
use Rattle.trace_options.specs.declared.words.FairServerOption.{FairServerOption}
use Rattle.trace_options.specs.declared.words.FairServerOption.TheVariants.{Usual, Absent, Reserves}
use Rattle.kernel_rules.specs.Clock.{ratio_of}
use Rattle.kernel_rules.specs.declared.charge.ChargeLaw.{ChargeLaw}
use Rattle.probe_findings.specs.declared.settings.LawSettings.{LawSettings}
use Rattle.probe_findings.specs.declared.settings.ServerNote.{ServerNote}
use Rattle.trace_data.specs.declared.note.ServerReservation.{ServerReservation}
use Rattle.trace_data.specs.declared.quantities.Sums.{Sums}
use Rattle.kernel_rules.specs.Releases.{has_servers}
use Rattle.timer_play.specs.declared.setup.FairServer.{FairServer}
use Rattle.timer_play.specs.declared.setup.FairServer.TheVariants as fair
use Rattle.timer_play.specs.declared.setup.KernelSettings.{KernelSettings}
use Rattle.timer_play.specs.declared.setup.RunqueueSums.{RunqueueSums}
use Rattle.timer_play.specs.Kernels.{current, law_for}
use Rattle.trace_data.specs.declared.line.RecordLine.{RecordLine}
use Rattle.trace_data.specs.declared.line.RecordLine.TheVariants as line
use Rattle.trace_data.specs.declared.note.Kernel.{Kernel}
use Rattle.trace_data.specs.declared.note.Limit.{Limit}
use Rattle.trace_data.specs.declared.note.Limit.TheVariants as limit
use Rattle.trace_data.specs.declared.note.Policy.TheVariants.{Deadline}
use Rattle.trace_data.specs.declared.note.TraceNote.{TraceNote}
use Rattle.trace_data.specs.declared.note.TraceNote.TheVariants as note
use Rattle.check_settings.specs.declared.head.OpeningSign.{OpeningSign}
use Rattle.check_settings.specs.declared.head.RecordHead.{RecordHead}
use Rattle.check_settings.specs.declared.head.SumsOpened.{SumsOpened}

-- an option stands above a note
abbrev pub chosen : {A : Type 0} → Option A → Option A → Option A
chosen (Some given) noted = Some given
chosen None noted = noted

-- the bandwidth of the fair server that the first CPU's note tells
abbrev pub first_server : List ServerNote → Option ℕ
first_server notes = option_and_then (λ (n : ServerNote). n.server) (slice_get notes 0)

abbrev pub usual_server : Option ℕ → FairServer
usual_server (Some bw) = fair.Bandwidth bw
usual_server None = fair.Default

-- the fair server of timers' rules: by an option, else by a note, else as the kernel begins
abbrev pub server_by : FairServerOption → Option ℕ → FairServer
server_by Usual noted = usual_server noted
server_by Absent noted = fair.None
server_by (Reserves runtime period) noted = fair.Reserves runtime period

abbrev pub is_documented : Arithmetic → Bool
is_documented arithmetic.Kernel = false
is_documented arithmetic.Documentation = true

abbrev pub kernel_by : RecordHead → CheckOptions → Option Kernel
kernel_by head o = chosen o.kernel head.kernel

-- the whole release that a note tells, where no option names the kernel
abbrev pub release_by : RecordHead → CheckOptions → Option (List ℕ)
release_by head o = if is_some o.kernel || length head.release.items == 0 then None else Some head.release.items

-- what the rules are told of the kernel
abbrev pub settings_by : RecordHead → CheckOptions → KernelSettings
settings_by head o = record {
  kernel = kernel_by head o;
  limit = chosen o.limit head.limit;
  fair_server = server_by o.fair (first_server head.servers.items);
  is_by_documentation = is_documented o.arithmetic;
}

-- lines of probes are played by the law of the timers' rules; where nothing is said, by that of a current kernel
abbrev pub law_by : RecordHead → CheckOptions → ChargeLaw
law_by head o = law_for (settings_by head o) (unwrap_or (kernel_by head o) current)

-- the bandwidth of each fair server that an option gives
abbrev pub bandwidth_by : FairServerOption → Option ℕ
bandwidth_by Usual = None
bandwidth_by Absent = Some 0
bandwidth_by (Reserves runtime period) = Some (ratio_of runtime period)

-- max_bw of a limit: the whole processor where there is none
abbrev pub max_bw_in : Limit → ℕ
max_bw_in (limit.MaxBw max_bw) = min max_bw (2 ^ 20)
max_bw_in (limit.Runtime runtime period) = if int_lt runtime (pos 0) then 2 ^ 20 else ratio_of (cast_unsigned w64 runtime) period

abbrev pub max_bw_by : Option Limit → Option ℕ
max_bw_by (Some given) = Some (max_bw_in given)
max_bw_by None = None

-- there are no fair servers where nothing is said
abbrev pub has_servers_by : Option Kernel → Bool
has_servers_by (Some k) = has_servers k
has_servers_by None = false

-- what a note says of the server of a CPU
abbrev pub server_note : ℕ → Sums → Option ServerReservation → ServerNote
server_note cpu sums server = record { cpu = cpu; server = option_map (λ (s : ServerReservation). ratio_of s.dl_runtime s.dl_period) server; this_bw = sums.this_bw }

-- what the laws of lines of probes are held against: an option stands above the lines
abbrev pub law_settings_by : RecordHead → CheckOptions → Bool → LawSettings
law_settings_by head o older = record {
  has_servers = has_servers_by (kernel_by head o);
  server_bw = bandwidth_by o.fair;
  limit = max_bw_by o.limit;
  has_older = older;
}

-- so many numbers, from this one on
abbrev pub numbers_from : ℕ → ℕ → List ℕ
numbers_from first zero = []
numbers_from first (suc n) = first ∷ numbers_from (first + 1) n

-- the CPUs from the first to the last one
abbrev pub cpus_from : ℕ → ℕ → List ℕ
cpus_from first last = numbers_from first (min (last + 1) (2 ^ 32 - 1) - first)

abbrev pub listed_in : List CpuRange → List ℕ
listed_in [] = []
listed_in (r ∷ rs) = cpus_from r.first r.last ++ listed_in rs

abbrev pub is_in_range : ℕ → CpuRange → Bool
is_in_range cpu r = nat_le r.first cpu && nat_le cpu r.last

-- the last CPU: by the head of the trace, or the greatest that a line names
abbrev pub last_by : Option ℕ → ℕ → ℕ
last_by (Some count) greatest = count - 1
last_by None greatest = greatest

-- the CPUs of the root domain: by an option, a note, or the last CPU
abbrev pub noted_domain : RecordHead → List ℕ
noted_domain head = if length head.domain.items == 0 then cpus_from 0 (last_by head.processors head.greatest_cpu) else head.domain.items

abbrev pub domain_by : RecordHead → CheckOptions → List ℕ
domain_by head o = if length o.domain.items == 0 then noted_domain head else listed_in o.domain.items

-- a CPU is of the root domain that an option or a note lists; each is where none does
abbrev pub is_of_domain : RecordHead → CheckOptions → ℕ → Bool
is_of_domain head o cpu =
    if length o.domain.items == 0 then length head.domain.items == 0 || list_any (λ c. c == cpu) head.domain.items
    else list_any (is_in_range cpu) o.domain.items

-- what notes and the head of a trace told
pub record Told : Type 0 where
  pub kernel : Option Kernel
  pub limit : Option Limit
  pub total_bw : Option ℕ
  pub domain : List ℕ
  pub processors : Option ℕ
  pub greatest : ℕ
  pub sums : List RunqueueSums
  pub servers : List ServerNote

abbrev pub told_of : RecordHead → Told
told_of h = record { kernel = h.kernel; limit = h.limit; total_bw = h.total_bw; domain = h.domain.items; processors = h.processors; greatest = h.greatest_cpu; sums = h.sums.items; servers = h.servers.items }

-- the head lists CPUs, or says how many there are
abbrev pub tells_cpus : Told → Bool
tells_cpus t = is_some t.processors || not (length t.domain == 0)

abbrev pub is_note_of : ℕ → RunqueueSums → Bool
is_note_of cpu note = note.cpu == cpu

-- but not of this one: it is in no list, has no note, and is beyond the number of processors
abbrev pub lacks_cpu : Told → CheckOptions → ℕ → Bool
lacks_cpu t o cpu =
    tells_cpus t && not (list_any (is_in_range cpu) o.domain.items) && not (list_any (λ c. c == cpu) t.domain)
    && not (list_any (is_note_of cpu) t.sums) && nat_le (unwrap_or t.processors 0) cpu

-- the kernel changes extra_bw by no rule of a task: from the first line on that shows it, extra_bw is not known
abbrev pub opened_by : Option SumsOpened → ℕ → OpeningSign → Option SumsOpened
opened_by (Some first) line sign = Some first
opened_by None line sign = Some (record { line = line; sign = sign })

abbrev pub open_from : Option SumsOpened → Option ℕ
open_from opening = option_map (λ (o : SumsOpened). o.line) opening

-- a note tells of a task that was in the class at the start, by its comm; threads of schedutil are not of it
abbrev pub is_older_by : RecordLine → List ℕ → Bool
is_older_by (line.Note (note.Task pid None by cpu (Deadline parameters))) comm = not (starts_with nat_eq comm (codes "sugov:"))
is_older_by other comm = false

abbrev pub nothing_told : Told
nothing_told = record { kernel = None; limit = None; total_bw = None; domain = []; processors = None; greatest = 0; sums = []; servers = [] }

-- a note more
abbrev pub noted_with : TraceNote → Told → Told
noted_with (note.Head kernel limit total_bw) h = record h { kernel = kernel; limit = limit; total_bw = total_bw }
noted_with (note.Runqueue cpu sums domain server) h = record h { sums = h.sums ++ record { cpu = cpu; sums = sums } ∷ []; servers = h.servers ++ server_note cpu sums server ∷ [] }
noted_with (note.Capacity cpu capacity) h = h
noted_with (note.Task pid at by cpu policy) h = h
noted_with (note.End limit total_bw) h = h

-- a line of a CPU
abbrev pub seen_on : ℕ → Told → Told
seen_on cpu h = record h { greatest = max h.greatest cpu }
