-- The sums of a runqueue.
use Rattle.std.specs.Prelude.{ℕ, ◌/◌, ◌==◌, if◌then◌else◌, None}
use Rattle.trace_data.specs.declared.quantities.Sums.{Sums}
use Rattle.kernel_rules.specs.declared.sums.SumsChange.{SumsChange}
use Rattle.kernel_rules.specs.Clock.{plus}

abbrev pub no_change : SumsChange
no_change = record { this_bw = 0; running_bw = 0; freed = None; taken = None }

-- __add_rq_bw, __sub_rq_bw, __add_running_bw, __sub_running_bw
abbrev pub changed_of : Sums → SumsChange → Sums
changed_of s c = record s { this_bw = plus s.this_bw c.this_bw; running_bw = plus s.running_bw c.running_bw }

-- __dl_add, __dl_sub
abbrev pub share_of : ℕ → ℕ → ℕ
share_of bw cpus = if cpus == 0 then 0 else bw / cpus
