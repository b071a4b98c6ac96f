-- Which fields each probe has, in their order, and what its line shows.
use Rattle.std.specs.Prelude.{ℕ, List, [], ◌∷◌, codes, Option, Some, None, if◌then◌else◌, option_map}
use Rattle.std.specs.Str.{bytes_eq}
use Rattle.trace_probes.specs.Fields.{has_field, values_with}
use Rattle.trace_probes.specs.Tables.{admitted, armed_by, dequeued, enqueued, left_class, migrating, no_values, picked, server_idled, server_started, server_stopped, shown_at, signed_at, unsigned_at, flag_at, cpu_at, updated_by}
use Rattle.trace_probes.specs.declared.field.Field.{Field}
use Rattle.trace_probes.specs.declared.field.Field.TheVariants.{Active, BwRatio, Clock, ClockTask, Cpu, CpuScale, Current, Deadline, Delayed, DeltaExec, DlDeadline, DlPeriod, DlRuntime, DomainBw, DonorDeadline, DonorPeriod, DonorRuntime, Earliest, Entity, ExecStart, Expires, ExtraBw, FairTasks, Flags, FrequencyScale, FromNow, Function, IsServer, MaxBw, MaxBwShown, NonContending, NormalPrio, OnRq, Pid, PolicyBefore, PolicyWanted, RootDomain, RunningBw, Runtime, SchedFlags, ServedBy, Server, State, ThisBw, Throttled, Timer, TimerServedBy, TotalBw, Write, Yielded}
use Rattle.trace_probes.specs.declared.shown.ProbeEvent.{ProbeEvent}
use Rattle.trace_probes.specs.declared.shown.ProbeEvent.TheVariants.{Enq, Upd, Deq, Mig, Sfr, Adm, Ina, Dlt, Hst, Ede, Pck, Dls, Idl, Pid as put_prev_idle, Mark as mark_event}
use Rattle.trace_probes.specs.declared.shown.MarkEvent.{MarkEvent}
use Rattle.trace_probes.specs.declared.shown.MarkEvent.TheVariants.{Att, Bwa, Bwf, Lim, Reb, Aff, Sap, Off, Onl}
use Rattle.trace_probes.specs.declared.value.FieldValue.{FieldValue}
use Rattle.trace_data.specs.declared.probe.Expiry.TheVariants.{After, At}
use Rattle.trace_data.specs.declared.probe.IdleCharge.{IdleCharge}
use Rattle.trace_data.specs.declared.probe.IdleCharge.TheVariants.{Update, EndOfIdle}
use Rattle.trace_data.specs.declared.probe.Mark.{Mark}
use Rattle.trace_data.specs.declared.probe.Mark.TheVariants as mark
use Rattle.trace_data.specs.declared.probe.Ran.TheVariants.{Span, Clocks}
use Rattle.trace_data.specs.declared.probe.Probe.{Probe}
use Rattle.trace_data.specs.declared.probe.Probe.TheVariants as probe

-- the function of this name that changes sums by no rule of a task
abbrev pub mark_named : List ℕ → Option MarkEvent
mark_named name =
    if bytes_eq name (codes "att") then Some Att else
    (if bytes_eq name (codes "bwa") then Some Bwa else
    (if bytes_eq name (codes "bwf") then Some Bwf else
    (if bytes_eq name (codes "lim") then Some Lim else
    (if bytes_eq name (codes "reb") then Some Reb else
    (if bytes_eq name (codes "aff") then Some Aff else
    (if bytes_eq name (codes "sap") then Some Sap else
    (if bytes_eq name (codes "off") then Some Off else
    (if bytes_eq name (codes "onl") then Some Onl else None))))))))

-- the event of this name, of a fair server or a mark
abbrev pub server_event_named : List ℕ → Option ProbeEvent
server_event_named name =
    if bytes_eq name (codes "ede") then Some Ede else
    (if bytes_eq name (codes "pck") then Some Pck else
    (if bytes_eq name (codes "dls") then Some Dls else
    (if bytes_eq name (codes "idl") then Some Idl else
    (if bytes_eq name (codes "pid") then Some put_prev_idle else option_map (λ e. mark_event e) (mark_named name)))))

-- the event of this name
abbrev pub event_named : List ℕ → Option ProbeEvent
event_named name =
    if bytes_eq name (codes "enq") then Some Enq else
    (if bytes_eq name (codes "upd") then Some Upd else
    (if bytes_eq name (codes "deq") then Some Deq else
    (if bytes_eq name (codes "mig") then Some Mig else
    (if bytes_eq name (codes "sfr") then Some Sfr else
    (if bytes_eq name (codes "adm") then Some Adm else
    (if bytes_eq name (codes "ina") then Some Ina else
    (if bytes_eq name (codes "dlt") then Some Dlt else
    (if bytes_eq name (codes "hst") then Some Hst else
    server_event_named name))))))))

-- enqueue_task_dl
abbrev pub enq_fields : List Field
enq_fields = Pid ∷ Cpu ∷ Flags ∷ Clock ∷ Runtime ∷ Deadline ∷ Throttled ∷ Yielded ∷ NonContending ∷ DlRuntime ∷ DlDeadline ∷ DlPeriod ∷ SchedFlags ∷ OnRq ∷ NormalPrio ∷ Entity ∷ ServedBy ∷ DonorRuntime ∷ DonorDeadline ∷ DonorPeriod ∷ ThisBw ∷ RunningBw ∷ ExtraBw ∷ []

-- update_curr_dl_se: kernels that show the span of a run
abbrev pub upd_span_fields : List Field
upd_span_fields = IsServer ∷ Pid ∷ Cpu ∷ Clock ∷ DeltaExec ∷ Runtime ∷ Deadline ∷ Throttled ∷ Yielded ∷ ThisBw ∷ RunningBw ∷ ExtraBw ∷ MaxBw ∷ BwRatio ∷ FrequencyScale ∷ CpuScale ∷ []

-- update_curr_dl: kernels that show the clock and the start of a run
abbrev pub upd_clocks_fields : List Field
upd_clocks_fields = Pid ∷ Cpu ∷ Clock ∷ ClockTask ∷ ExecStart ∷ Runtime ∷ Deadline ∷ Throttled ∷ Yielded ∷ Entity ∷ ThisBw ∷ RunningBw ∷ ExtraBw ∷ MaxBwShown ∷ BwRatio ∷ FrequencyScale ∷ CpuScale ∷ []

-- dequeue_task_dl
abbrev pub deq_fields : List Field
deq_fields = Pid ∷ Cpu ∷ Flags ∷ Clock ∷ Runtime ∷ Deadline ∷ Throttled ∷ Yielded ∷ NonContending ∷ OnRq ∷ State ∷ Current ∷ ThisBw ∷ RunningBw ∷ ExtraBw ∷ []

-- migrate_task_rq_dl
abbrev pub mig_fields : List Field
mig_fields = Pid ∷ State ∷ []

-- switched_from_dl
abbrev pub sfr_fields : List Field
sfr_fields = Pid ∷ Cpu ∷ Clock ∷ Runtime ∷ Deadline ∷ NonContending ∷ OnRq ∷ ThisBw ∷ RunningBw ∷ ExtraBw ∷ []

-- sched_dl_overflow
abbrev pub adm_fields : List Field
adm_fields = Pid ∷ Cpu ∷ PolicyBefore ∷ PolicyWanted ∷ DlRuntime ∷ DlDeadline ∷ DlPeriod ∷ SchedFlags ∷ OnRq ∷ TotalBw ∷ DomainBw ∷ []

-- sched_dl_overflow where tasks may be dequeued late
abbrev pub adm_delayed_fields : List Field
adm_delayed_fields = Pid ∷ Cpu ∷ PolicyBefore ∷ PolicyWanted ∷ DlRuntime ∷ DlDeadline ∷ DlPeriod ∷ SchedFlags ∷ OnRq ∷ Delayed ∷ TotalBw ∷ DomainBw ∷ []

-- inactive_task_timer
abbrev pub ina_fields : List Field
ina_fields = Timer ∷ []

-- dl_task_timer
abbrev pub dlt_fields : List Field
dlt_fields = Timer ∷ TimerServedBy ∷ []

-- hrtimer_start_range_ns, by its argument
abbrev pub hst_from_now_fields : List Field
hst_from_now_fields = Timer ∷ FromNow ∷ Function ∷ []

-- hrtimer_start, by its event
abbrev pub hst_until_fields : List Field
hst_until_fields = Timer ∷ Expires ∷ Function ∷ []

-- enqueue_dl_entity
abbrev pub ede_fields : List Field
ede_fields = Server ∷ Cpu ∷ Flags ∷ Clock ∷ DlRuntime ∷ DlPeriod ∷ NonContending ∷ ThisBw ∷ RunningBw ∷ ExtraBw ∷ []

-- pick_task_dl
abbrev pub pck_fields : List Field
pck_fields = Cpu ∷ Clock ∷ FairTasks ∷ Earliest ∷ Active ∷ Throttled ∷ Runtime ∷ Deadline ∷ DlRuntime ∷ DlPeriod ∷ NonContending ∷ ThisBw ∷ RunningBw ∷ ExtraBw ∷ []

-- dl_server_stop
abbrev pub dls_fields : List Field
dls_fields = Cpu ∷ Clock ∷ Active ∷ Runtime ∷ Deadline ∷ DlRuntime ∷ DlPeriod ∷ NonContending ∷ ThisBw ∷ RunningBw ∷ ExtraBw ∷ []

-- dl_server_update_idle_time and put_prev_task_idle
abbrev pub idle_fields : List Field
idle_fields = Cpu ∷ Clock ∷ ClockTask ∷ ExecStart ∷ Runtime ∷ Deadline ∷ Throttled ∷ Active ∷ []

-- what is shown where the words have these fields
abbrev pub shows : {A : Type 0} → List Field → (List FieldValue → A) → List (List ℕ) → Option A
shows fields show words = option_map show (values_with fields no_values words)

abbrev pub show_enqueued : List (List ℕ) → Option Probe
show_enqueued words = shows enq_fields (λ v. probe.Enqueued (enqueued v)) words

abbrev pub show_updated_by_span : List (List ℕ) → Option Probe
show_updated_by_span words = shows upd_span_fields (λ v. probe.Updated (updated_by v (Span (signed_at DeltaExec v) (unsigned_at MaxBw v)))) words

abbrev pub show_updated_by_clocks : List (List ℕ) → Option Probe
show_updated_by_clocks words = shows upd_clocks_fields (λ v. probe.Updated (updated_by v (Clocks (unsigned_at ClockTask v) (unsigned_at ExecStart v) (unsigned_at Entity v) (shown_at MaxBwShown v)))) words

abbrev pub show_dequeued : List (List ℕ) → Option Probe
show_dequeued words = shows deq_fields (λ v. probe.Dequeued (dequeued v)) words

abbrev pub show_migrating : List (List ℕ) → Option Probe
show_migrating words = shows mig_fields (λ v. probe.Migrating (migrating v)) words

abbrev pub show_left_class : List (List ℕ) → Option Probe
show_left_class words = shows sfr_fields (λ v. probe.LeftClass (left_class v)) words

abbrev pub show_admitted : List (List ℕ) → Option Probe
show_admitted words = shows adm_fields (λ v. probe.Admitted (admitted v)) words

abbrev pub show_admitted_delayed : List (List ℕ) → Option Probe
show_admitted_delayed words = shows adm_delayed_fields (λ v. probe.Admitted (admitted v)) words

abbrev pub show_zero_lag_fired : List (List ℕ) → Option Probe
show_zero_lag_fired words = shows ina_fields (λ v. probe.ZeroLagFired (unsigned_at Timer v)) words

abbrev pub show_replenish_fired : List (List ℕ) → Option Probe
show_replenish_fired words = shows dlt_fields (λ v. probe.ReplenishFired (unsigned_at Timer v) (shown_at TimerServedBy v)) words

abbrev pub show_armed_from_now : List (List ℕ) → Option Probe
show_armed_from_now words = shows hst_from_now_fields (λ v. probe.Armed (armed_by v (After (signed_at FromNow v)))) words

abbrev pub show_armed_until : List (List ℕ) → Option Probe
show_armed_until words = shows hst_until_fields (λ v. probe.Armed (armed_by v (At (signed_at Expires v)))) words

abbrev pub show_server_started : List (List ℕ) → Option Probe
show_server_started words = shows ede_fields (λ v. probe.ServerStarted (server_started v)) words

abbrev pub show_picked : List (List ℕ) → Option Probe
show_picked words = shows pck_fields (λ v. probe.Picked (picked v)) words

abbrev pub show_updated : List (List ℕ) → Option Probe
show_updated words = if has_field DeltaExec words then show_updated_by_span words else show_updated_by_clocks words

abbrev pub show_admission : List (List ℕ) → Option Probe
show_admission words = if has_field Delayed words then show_admitted_delayed words else show_admitted words

abbrev pub show_armed : List (List ℕ) → Option Probe
show_armed words = if has_field FromNow words then show_armed_from_now words else show_armed_until words

abbrev pub show_server_stopped : List (List ℕ) → Option Probe
show_server_stopped words = shows dls_fields (λ v. probe.ServerStopped (server_stopped v)) words

abbrev pub show_idled : IdleCharge → List (List ℕ) → Option Probe
show_idled charge words = shows idle_fields (λ v. probe.ServerIdled (server_idled v charge)) words

-- rq_attach_root
abbrev pub show_attached : List (List ℕ) → Option Mark
show_attached words = shows (Cpu ∷ RootDomain ∷ []) (λ v. mark.DomainAttached (cpu_at v) (unsigned_at RootDomain v)) words

-- the CPU of a line that shows nothing else
abbrev pub of_cpu : List (List ℕ) → Option ℕ
of_cpu words = shows (Cpu ∷ []) cpu_at words

-- sched_rt_handler
abbrev pub show_limit : List (List ℕ) → Option Mark
show_limit words = shows (Write ∷ []) (λ v. mark.LimitHandled (flag_at Write v)) words

-- dl_add_task_root_domain
-- a probe with a filter on the policy, which is 6, shows the pid alone
abbrev pub show_rebuilt_deadline : List (List ℕ) → Option Mark
show_rebuilt_deadline words = shows (Pid ∷ []) (λ v. mark.TaskRebuilt (unsigned_at Pid v) 6) words

abbrev pub show_rebuilt_any : List (List ℕ) → Option Mark
show_rebuilt_any words = shows (Pid ∷ PolicyWanted ∷ []) (λ v. mark.TaskRebuilt (unsigned_at Pid v) (unsigned_at PolicyWanted v)) words

abbrev pub show_rebuilt : List (List ℕ) → Option Mark
show_rebuilt words = if has_field PolicyWanted words then show_rebuilt_any words else show_rebuilt_deadline words

-- set_cpus_allowed_dl
abbrev pub show_affinity : List (List ℕ) → Option Mark
show_affinity words = shows (Pid ∷ Cpu ∷ []) (λ v. mark.AffinitySet (unsigned_at Pid v) (cpu_at v)) words

-- dl_server_apply_params
abbrev pub show_server_changed : List (List ℕ) → Option Mark
show_server_changed words = shows (Cpu ∷ DlRuntime ∷ DlPeriod ∷ []) (λ v. mark.ServerChanged (cpu_at v) (unsigned_at DlRuntime v) (unsigned_at DlPeriod v)) words

-- what a line of a function shows that changes sums by no rule of a task
abbrev pub show_mark : MarkEvent → List (List ℕ) → Option Mark
show_mark Att words = show_attached words
show_mark Bwa words = option_map (λ c. mark.BandwidthTaken c) (of_cpu words)
show_mark Bwf words = option_map (λ c. mark.BandwidthFreed c) (of_cpu words)
show_mark Lim words = show_limit words
show_mark Reb words = show_rebuilt words
show_mark Aff words = show_affinity words
show_mark Sap words = show_server_changed words
show_mark Off words = option_map (λ c. mark.CpuDeactivated c) (of_cpu words)
show_mark Onl words = option_map (λ c. mark.CpuActivated c) (of_cpu words)

-- what a line of a probe shows, by the words behind its event
abbrev pub probe_of : ProbeEvent → List (List ℕ) → Option Probe
probe_of Enq words = show_enqueued words
probe_of Upd words = show_updated words
probe_of Deq words = show_dequeued words
probe_of Mig words = show_migrating words
probe_of Sfr words = show_left_class words
probe_of Adm words = show_admission words
probe_of Ina words = show_zero_lag_fired words
probe_of Dlt words = show_replenish_fired words
probe_of Hst words = show_armed words
probe_of Ede words = show_server_started words
probe_of Pck words = show_picked words
probe_of Dls words = show_server_stopped words
probe_of Idl words = show_idled Update words
probe_of put_prev_idle words = show_idled EndOfIdle words
probe_of (mark_event event) words = option_map (λ m. probe.Mark m) (show_mark event words)
