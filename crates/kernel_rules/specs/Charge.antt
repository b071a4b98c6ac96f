-- What a run takes from a budget: grub_reclaim.
use Rattle.std.specs.Prelude.{ℕ, ◌/◌, ◌^◌, if◌then◌else◌, nat_lt, ◌==◌}
use Rattle.kernel_rules.specs.declared.charge.ChargeLaw.{ChargeLaw}
use Rattle.kernel_rules.specs.declared.charge.ChargeLaw.TheVariants.{LinuxBefore65, LinuxFrom65, Documentation}
use Rattle.kernel_rules.specs.declared.charge.Charge.{Charge}
use Rattle.kernel_rules.specs.declared.charge.Charge.TheVariants.{InFull, ByItsBandwidth, ByWhatIsLeft}
use Rattle.kernel_rules.specs.declared.charge.ChargedRunqueue.{ChargedRunqueue}
use Rattle.kernel_rules.specs.declared.entity.Entity.{Entity}
use Rattle.kernel_rules.specs.declared.flags.TheConstants.{RECLAIM, BW_UNIT}
use Rattle.kernel_rules.specs.Clock.{plus, less, times, contains_bits}

-- the bandwidth that an entity is charged by at least
abbrev pub least_of : ChargeLaw → Entity → ChargedRunqueue → ℕ
least_of LinuxBefore65 e r = times e.dl_bw r.bw_ratio / 2 ^ 8
least_of LinuxFrom65 e r = e.dl_bw
least_of Documentation e r = e.dl_bw

-- the bandwidth that is shared
abbrev pub top_of : ChargeLaw → ChargedRunqueue → ℕ
top_of LinuxBefore65 r = BW_UNIT
top_of LinuxFrom65 r = r.max_bw
top_of Documentation r = r.max_bw

abbrev pub inactive_of : ChargedRunqueue → ℕ
inactive_of r = less r.sums.this_bw r.sums.running_bw

unfoldable pub charging_of : ChargeLaw → Entity → ChargedRunqueue → Charge
charging_of law e r =
    if contains_bits e.parameters.flags RECLAIM
    then (if nat_lt (less (top_of law r) (least_of law e r)) (plus (inactive_of r) r.sums.extra_bw) then ByItsBandwidth else ByWhatIsLeft)
    else InFull

abbrev pub rate_of : ChargeLaw → Entity → ChargedRunqueue → Charge → ℕ
rate_of law e r InFull = BW_UNIT
rate_of law e r ByItsBandwidth = least_of law e r
rate_of law e r ByWhatIsLeft = less (less (top_of law r) (inactive_of r)) r.sums.extra_bw

abbrev pub scaled_of : ChargeLaw → ChargedRunqueue → ℕ → ℕ → ℕ
scaled_of LinuxBefore65 r rate nanos = times nanos rate / 2 ^ 20
scaled_of LinuxFrom65 r rate nanos = times nanos (times rate r.bw_ratio / 2 ^ 8) / 2 ^ 20
scaled_of Documentation r rate nanos = if r.max_bw == 0 then 0 else times nanos rate / r.max_bw

abbrev pub cost_by : ChargeLaw → Entity → ChargedRunqueue → ℕ → Charge → ℕ
cost_by law e r nanos InFull = nanos
cost_by law e r nanos ByItsBandwidth = scaled_of law r (rate_of law e r ByItsBandwidth) nanos
cost_by law e r nanos ByWhatIsLeft = scaled_of law r (rate_of law e r ByWhatIsLeft) nanos

unfoldable pub cost_of : ChargeLaw → Entity → ChargedRunqueue → ℕ → ℕ
cost_of law e r nanos = cost_by law e r nanos (charging_of law e r)
