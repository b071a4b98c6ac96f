-- The nodes of a wheel.
use Rattle.std.specs.Prelude.{◌≡◌, ◌≢◌, ℕ, ◌<◌, ◌≤◌, ◌+◌, ◌*◌, ◌%◌, sum_by, true, false, List, [], ◌∷◌, length, Option, Some, None, if◌then◌else◌, slice_index_or}
use Rattle.std.specs.List.{AllByRecursion}
use Rattle.grub_wheel.specs.declared.timer.Timer.{Timer}
use Rattle.grub_wheel.specs.declared.node.Node.{Node}
use Rattle.grub_wheel.specs.inside.Firsts.{IsChained, IsFirst, IsLast}

-- a free place with none behind it
abbrev pub free_node : Node
free_node = record { timer = record { z = 0; t = 0; ticket = 0 }; armed = false; next = None }

abbrev pub node_at : List Node → ℕ → Node
node_at ns i = slice_index_or ns i free_node

abbrev pub Armed : List Node → ℕ → Type 0
Armed ns i = (node_at ns i).armed ≡ true

-- the armed timers
abbrev pub timers_of : List Node → List Timer
timers_of [] = []
timers_of (n ∷ ns) = if n.armed then n.timer ∷ timers_of ns else timers_of ns

-- timers in the order of their moments and tasks, as one number
abbrev pub key_of : Timer → ℕ
key_of x = x.z * 4294967296 + x.t

abbrev pub slot_of : Timer → ℕ
slot_of x = x.z % 256

abbrev pub keys : List Node → ℕ → ℕ
keys ns i = key_of (node_at ns i).timer

abbrev pub slots : List Node → ℕ → ℕ
slots ns i = slot_of (node_at ns i).timer

abbrev pub moments : List Node → ℕ → ℕ
moments ns i = (node_at ns i).timer.z

abbrev pub tasks : List Node → ℕ → ℕ
tasks ns i = (node_at ns i).timer.t

abbrev pub links : List Node → ℕ → Option ℕ
links ns i = (node_at ns i).next

abbrev pub head_of : List (Option ℕ) → ℕ → Option ℕ
head_of hs s = slice_index_or hs s None

abbrev pub AreChained : List Node → List (Option ℕ) → Type 0
AreChained ns hs = IsChained (Armed ns) (keys ns) (slots ns) (links ns) (head_of hs)

-- the armed nodes stand in the lists of their slots, in order, and are of different tasks
pub record AreInSlots (ns : List Node) (hs : List (Option ℕ)) : Type 0 where
  pub count : length hs ≡ 256
  pub chained : AreChained ns hs
  pub apart : (i j : ℕ) → Armed ns i → Armed ns j → tasks ns i ≡ tasks ns j → i ≡ j
  pub narrow : (i : ℕ) → Armed ns i → tasks ns i < 4294967296

-- the node is there, and its task is a number of 32 bits
pub record IsNarrowNode (ns : List Node) (i : ℕ) : Type 0 where
  pub within : i < length ns
  pub narrow : tasks ns i < 4294967296

-- the node is the first of the armed nodes with P
abbrev pub IsFirstOf : List Node → (ℕ → Type 0) → Option ℕ → Type 0
IsFirstOf ns P at = IsFirst (Armed ns) (keys ns) P at

abbrev pub IsLastOf : List Node → ℕ → ℕ → Option ℕ → Type 0
IsLastOf ns s k at = IsLast (Armed ns) (keys ns) (slots ns) s k at

-- all but the link of a node is as it was
pub record IsKept (ns ms : List Node) (j : ℕ) : Type 0 where
  pub timer : (node_at ms j).timer ≡ (node_at ns j).timer
  pub armed : (node_at ms j).armed ≡ (node_at ns j).armed

-- what stood behind `before` in its slot, or at its head, is now `to`
abbrev pub IsRelinked : List Node → List Node → List (Option ℕ) → List (Option ℕ) → ℕ → Option ℕ → Option ℕ → Type 0
IsRelinked ns ms hs gs s None to = (head_of gs s ≡ to) × ((j : ℕ) → links ms j ≡ links ns j)
IsRelinked ns ms hs gs s (Some i) to = (links ms i ≡ to) × (head_of gs s ≡ head_of hs s) × ((j : ℕ) → j ≢ i → links ms j ≡ links ns j)

pub record IsPointed (ns ms : List Node) (hs gs : List (Option ℕ)) (s : ℕ) (before to : Option ℕ) : Type 0 where
  pub size : length ms ≡ length ns
  pub kept : (j : ℕ) → IsKept ns ms j
  pub linked : IsRelinked ns ms hs gs s before to
  pub others : (r : ℕ) → r ≢ s → head_of gs r ≡ head_of hs r

-- all but node i is as it was, but for links of armed nodes
pub record AreOthersKept (ns ms : List Node) (i : ℕ) : Type 0 where
  pub size : length ms ≡ length ns
  pub kept : (j : ℕ) → j ≢ i → IsKept ns ms j
  pub free : (j : ℕ) → j ≢ i → (node_at ns j).armed ≡ false → links ms j ≡ links ns j

pub record IsFreed (n : Node) (to : Option ℕ) : Type 0 where
  pub armed : n.armed ≡ false
  pub next : n.next ≡ to

pub record IsArmedNode (n : Node) (x : Timer) : Type 0 where
  pub armed : n.armed ≡ true
  pub timer : n.timer ≡ x

-- of the best so far and a slot's head, the earlier that is due at m
pub record IsSooner (ns : List Node) (best head : Option ℕ) (m : ℕ) (result : Option ℕ) : Type 0 where
  pub unused : head ≡ None → result ≡ best
  pub late : (h : ℕ) → head ≡ Some h → m < moments ns h → result ≡ best
  pub only : (h : ℕ) → head ≡ Some h → moments ns h ≤ m → best ≡ None → result ≡ head
  pub later : (h b : ℕ) → head ≡ Some h → moments ns h ≤ m → best ≡ Some b → keys ns b < keys ns h → result ≡ best
  pub sooner : (h b : ℕ) → head ≡ Some h → moments ns h ≤ m → best ≡ Some b → keys ns h ≤ keys ns b → result ≡ head

-- these free places, each of them once, follow one another
abbrev pub AreFree : List Node → List ℕ → Option ℕ → Type 0
AreFree ns [] at = at ≡ None
AreFree ns (i ∷ is) at = (at ≡ Some i) × (i < length ns) × ((node_at ns i).armed ≡ false) × AllByRecursion (λ j. j ≢ i) is × AreFree ns is (links ns i)

abbrev pub one_if_armed : Node → ℕ
one_if_armed n = if n.armed then 1 else 0

abbrev pub armed_count : List Node → ℕ
armed_count ns = sum_by one_if_armed ns

-- the nodes and slots of a wheel, with no armed timer before `from`
pub record IsHashed (ns : List Node) (hs : List (Option ℕ)) (free : Option ℕ) (spare from : ℕ) : Type 0 where
  pub sound : AreInSlots ns hs
  pub places : List ℕ
  pub linked : AreFree ns places free
  pub room : length places ≡ spare
  pub count : spare + armed_count ns ≡ length ns
  pub after : (i : ℕ) → Armed ns i → from ≤ moments ns i
