-- A reservation is asked for: sched_dl_overflow, dl_change_utilization, switched_to_dl, __setparam_dl.
use Rattle.std.specs.Prelude.{ℕ, ◌-◌, ◌^◌, Bool, true, false, not, ◌&&◌, ◌==◌, nat_lt, if◌then◌else◌, Some, None, bit_and}
use Rattle.trace_data.specs.declared.probe.Admitted.{Admitted}
use Rattle.trace_data.specs.declared.quantities.Parameters.{Parameters}
use Rattle.kernel_rules.specs.declared.entity.Entity.{Entity}
use Rattle.kernel_rules.specs.declared.sums.SumsChange.{SumsChange}
use Rattle.kernel_rules.specs.declared.flags.TheConstants.{KEPT_FLAGS, DEADLINE_POLICY}
use Rattle.kernel_rules.specs.Clock.{plus, less, ratio_of}
use Rattle.kernel_rules.specs.Sums.{no_change}
use Rattle.kernel_rules.specs.Reservation.{reserved_of}
use Rattle.kernel_rules.specs.declared.admissions.Admission.{Admission}
use Rattle.kernel_rules.specs.declared.admissions.Admission.TheVariants.{Other, Refused, Same, Changed, Back, New}
use Rattle.kernel_rules.specs.declared.admissions.Admitting.{Admitting}

unfoldable pub wanted_of : Admitted → Parameters
wanted_of l = record l.parameters {
  dl_period = if l.parameters.dl_period == 0 then l.parameters.dl_deadline else l.parameters.dl_period;
  flags = bit_and l.parameters.flags KEPT_FLAGS;
}

abbrev pub new_of : Admitted → ℕ
new_of l = ratio_of (wanted_of l).dl_runtime (wanted_of l).dl_period

abbrev pub is_queued_of : Admitted → Bool
is_queued_of l = not (l.on_rq == 0) && not l.is_delayed

abbrev pub old_of : Entity → Admitted → ℕ
old_of e l = if l.policy_before == DEADLINE_POLICY then e.dl_bw else 0

-- __dl_overflow: the root domain has room for so much bandwidth; no limit is 2 ^ 64 - 1
unfoldable pub is_refused : Admitted → ℕ → ℕ → ℕ → Bool
is_refused l room old new = not (l.limit == 2 ^ 64 - 1) && nat_lt room (plus (less l.total_bw old) new)

unfoldable pub admission_of : Entity → Admitted → ℕ → Admission
admission_of e l room =
    if not (l.policy == DEADLINE_POLICY) then Other
    else (if l.policy_before == DEADLINE_POLICY && (new_of l == old_of e l) then Same
    else (if is_refused l room (old_of e l) (new_of l) then Refused
    else (if l.policy_before == DEADLINE_POLICY then Changed
    else (if e.has_inactive_timer then Back else New))))

-- of a blocked task whose bandwidth changes the 0-lag state ends
unfoldable pub still_of : Entity → Entity
still_of e = record e { is_non_contending = false; has_inactive_timer = e.has_inactive_timer && not e.is_non_contending }

unfoldable pub enters_of : Entity → Entity
enters_of e = record e { is_in_class = true; has_inactive_timer = false }

abbrev pub admitted_of : Entity → Admitted → Admission → Entity
admitted_of e l Other = e
admitted_of e l Refused = e
admitted_of e l Same = e
admitted_of e l Changed = if is_queued_of l then e else still_of e
admitted_of e l Back = enters_of e
admitted_of e l New = enters_of e

-- this_bw and running_bw of a blocked task, and what the root domain gets back and gives
abbrev pub admitting_change : Entity → Admitted → ℕ → Admission → SumsChange
admitting_change e l new Other = no_change
admitting_change e l new Refused = no_change
admitting_change e l new Same = no_change
admitting_change e l new Changed = record {
  this_bw = if is_queued_of l then 0 else less new e.dl_bw;
  running_bw = if not (is_queued_of l) && e.is_non_contending then less 0 e.dl_bw else 0;
  freed = Some e.dl_bw;
  taken = Some new;
}
admitting_change e l new Back = record { this_bw = if is_queued_of l then 0 else new; running_bw = 0; freed = Some e.dl_bw; taken = Some new }
admitting_change e l new New = record { this_bw = if is_queued_of l then 0 else new; running_bw = 0; freed = None; taken = Some new }

-- a queued task takes the reservation at its next enqueue
abbrev pub taking_of : Entity → Admitted → Admission → Admitting
taking_of e l admission = record {
  entity = if is_queued_of l then record (admitted_of e l admission) { new_parameters = Some (wanted_of l) } else reserved_of (admitted_of e l admission) (wanted_of l);
  change = admitting_change e l (new_of l) admission;
  admission = admission;
}

abbrev pub admitting_by : Entity → Admitted → Admission → Admitting
admitting_by e l Other = record { entity = e; change = no_change; admission = Other }
admitting_by e l Refused = record { entity = e; change = no_change; admission = Refused }
admitting_by e l Same = taking_of e l Same
admitting_by e l Changed = taking_of e l Changed
admitting_by e l Back = taking_of e l Back
admitting_by e l New = taking_of e l New

unfoldable pub admitting_of : Entity → Admitted → ℕ → Admitting
admitting_of e l room = admitting_by e l (admission_of e l room)
