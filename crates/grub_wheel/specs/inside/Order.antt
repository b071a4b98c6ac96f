-- Timers in the order of their moments and tasks.
use Rattle.std.specs.Prelude.{ℕ, Bool, ◌&&◌, ◌||◌, nat_lt, ◌==◌, List, map}
use Rattle.grub_wheel.specs.declared.timer.Timer.{Timer}

abbrev pub entry : Timer → ℕ × (ℕ × ℕ)
entry x = (x.t, (x.z, x.ticket))

abbrev pub entries_of : List Timer → List (ℕ × (ℕ × ℕ))
entries_of xs = map entry xs

abbrev pub is_before : Timer → Timer → Bool
is_before x y = nat_lt x.z y.z || x.z == y.z && nat_lt x.t y.t
