-- The maps of used slots, and of tasks with a timer.
use Rattle.std.specs.Prelude.{◌≡◌, ◌≢◌, ℕ, ◌<◌, ◌/◌, ◌%◌, List, Option, None, slice_index}
use Rattle.std.specs.Int.{bit_at}
use Rattle.grub_wheel.specs.declared.node.Node.{Node}
use Rattle.grub_wheel.specs.inside.Nodes.{Armed, head_of, tasks}

-- 1 where the slot is marked as used, and else 0
abbrev pub mark_of : List ℕ → ℕ → ℕ
mark_of us s = bit_at (slice_index us (s / 64)) (s % 64)

-- each slot with a head is marked
abbrev pub IsMapped : List ℕ → List (Option ℕ) → Type 0
IsMapped us hs = (s : ℕ) → s < 256 → head_of hs s ≢ None → mark_of us s ≡ 1

-- the same, but for one slot
abbrev pub IsMappedBut : ℕ → List ℕ → List (Option ℕ) → Type 0
IsMappedBut r us hs = (s : ℕ) → s < 256 → s ≢ r → head_of hs s ≢ None → mark_of us s ≡ 1

-- each task below 256 whose timer is armed is marked
abbrev pub AreMarked : List ℕ → List Node → Type 0
AreMarked us ns = (i : ℕ) → Armed ns i → tasks ns i < 256 → mark_of us (tasks ns i) ≡ 1
