-- What the kernel itself charges, in nanoseconds and with its own rounding: the `grub_reclaim` of kernel/sched/deadline.c, as `kernel_rules` has it.
use Rattle.std.specs.Prelude.{ℕ, nat_lt, false, if◌then◌else◌}
use Rattle.kernel_rules.specs.Charge.{cost_of}
use Rattle.kernel_rules.specs.Reservation.{fresh_of}
use Rattle.kernel_rules.specs.declared.charge.ChargeLaw.{ChargeLaw}
use Rattle.kernel_rules.specs.declared.charge.ChargeLaw.TheVariants.{LinuxBefore65, LinuxFrom65}
use Rattle.kernel_rules.specs.declared.entity.Entity.{Entity}
use Rattle.kernel_rules.specs.declared.flags.TheConstants.{RECLAIM}

-- 6.5, as KERNEL_VERSION(6, 5, 0) has it
abbrev pub law_of : ℕ → ChargeLaw
law_of kernel = if nat_lt kernel 0x060500 then LinuxBefore65 else LinuxFrom65

-- an entity of this bandwidth with SCHED_FLAG_RECLAIM
abbrev pub reclaiming : ℕ → Entity
reclaiming bw = record (fresh_of false) { parameters = record { dl_runtime = 0; dl_deadline = 0; dl_period = 0; flags = RECLAIM }; dl_bw = bw }

-- what a run of dt takes from its budget
abbrev pub kernel_charge_of : ℕ → ℕ → ℕ → ℕ → ℕ → ℕ → ℕ → ℕ → ℕ
kernel_charge_of kernel dt bw this_bw running_bw extra_bw max_bw bw_ratio =
    cost_of (law_of kernel) (reclaiming bw) (record { sums = record { this_bw = this_bw; running_bw = running_bw; extra_bw = extra_bw }; max_bw = max_bw; bw_ratio = bw_ratio }) dt
