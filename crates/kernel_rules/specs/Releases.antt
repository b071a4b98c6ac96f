-- What a version of Linux has, by the table RELEASES of src/table.rt.
use Rattle.std.specs.Prelude.{ℕ, codes, Bool, true, false, ◌==◌, nat_lt, nat_le, if◌then◌else◌, List, [], ◌∷◌, Option, Some, None}
use Rattle.trace_data.specs.declared.note.Kernel.{Kernel}
use Rattle.kernel_rules.specs.declared.charge.ChargeLaw.{ChargeLaw}
use Rattle.kernel_rules.specs.declared.charge.ChargeLaw.TheVariants.{LinuxBefore65, LinuxFrom65}
use Rattle.kernel_rules.specs.declared.table.Release.{Release}
use Rattle.kernel_rules.specs.declared.table.Servers.{Servers}
use Rattle.kernel_rules.specs.declared.table.Servers.TheVariants.{Absent, StopWithTimer, StopAtPick, StopAtIdle}
use Rattle.kernel_rules.specs.declared.table.TheConstants.{OLDEST, RELEASES}

-- the second version is the first one or a later one
abbrev pub is_at_or_before : Kernel → Kernel → Bool
is_at_or_before a b =
    if a.major == b.major then (if a.minor == b.minor then nat_le a.patch b.patch else nat_lt a.minor b.minor) else nat_lt a.major b.major

-- the last of these rows that begins at or before a version, else this one
abbrev pub last_from : Kernel → Release → List Release → Release
last_from k found [] = found
last_from k found (r ∷ rs) = last_from k (if is_at_or_before r.from k then r else found) rs

-- the row of a version
abbrev pub release_of : Kernel → Release
release_of k = last_from k OLDEST RELEASES

-- grub_reclaim charges by max_bw, where a runqueue has it
abbrev pub charge_law : Kernel → ChargeLaw
charge_law k = if (release_of k).has_max_bw then LinuxFrom65 else LinuxBefore65

abbrev pub runs_servers : Servers → Bool
runs_servers Absent = false
runs_servers StopWithTimer = true
runs_servers StopAtPick = true
runs_servers StopAtIdle = true

-- each runqueue has a fair server
abbrev pub has_servers : Kernel → Bool
has_servers k = runs_servers (release_of k).servers

-- where servers stop at what no line shows, the sums depend on the boot: a note has to tell them
abbrev pub wants_sums : Servers → Bool
wants_sums Absent = false
wants_sums StopWithTimer = true
wants_sums StopAtPick = true
wants_sums StopAtIdle = false

-- a record by probes is judged of a kernel that was tried, and where no kernel is named
abbrev pub is_judged_by_probes : Option Kernel → Bool
is_judged_by_probes None = true
is_judged_by_probes (Some k) = (release_of k).is_tried_by_probes

-- a record by timers is judged of a kernel that was tried, and where no kernel is named
abbrev pub is_judged_by_timers : Option Kernel → Bool
is_judged_by_timers None = true
is_judged_by_timers (Some k) = (release_of k).is_tried_by_timers

-- the rows of the table that were tried, in words
abbrev pub tried_by_probes : List ℕ
tried_by_probes = codes "6.1, 6.12.92 and later 6.12"

abbrev pub tried_by_timers : List ℕ
tried_by_timers = codes "6.1, 6.12.92 and later 6.12, 6.18"
