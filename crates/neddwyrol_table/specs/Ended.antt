-- How passes are taken apart, meet and are gathered, and what a closed table leaves.
use Rattle.std.specs.Prelude.{◌≡◌, ◌<◌, ◌≤◌, ℕ, ◌⊎◌, List, ◌++◌, length, slice_index_or}
use Rattle.grub_book.specs.History.{pass_of}
use Rattle.grub_book.specs.declared.event.Reading.{Reading}
use Rattle.grub_table.specs.Calls.{IsClosed, IsBehind, number_of, seen, marks}
use Rattle.grub_table.specs.Marks.{marker_of}
use Rattle.grub_table.specs.declared.pass.Pass.{Pass}
use Rattle.grub_table.specs.declared.shared.Shared.{Shared}
use Rattle.library_book.specs.declared.numbers.NdReading.{NdReading}
use Rattle.neddwyrol_table.specs.declared.held.Kept.{Kept}
use Rattle.neddwyrol_table.specs.declared.held.Held.{Held}
use Rattle.neddwyrol_table.specs.Called.{Keeps, table_of, passes_of}

-- the last of the passes that k had gathered is by itself
abbrev pub HasParted : Kept → Kept → Kept → Type 0
HasParted k rest part = (table_of rest ≡ table_of k) × (table_of part ≡ table_of k) × (rest.pass ≡ k.pass) × (k.gathered.items ≡ rest.gathered.items ++ passes_of part)

-- the pass of l, and what l had gathered, are gathered in the result, after what k had gathered
abbrev pub HasGathered : Kept → Kept → Kept → Type 0
HasGathered k l result = (table_of result ≡ table_of k) × (result.pass ≡ k.pass) × (result.gathered.items ≡ k.gathered.items ++ passes_of l)

-- two passes p and q are the passes x and y after they have met
pub record HaveMet (p q x y : Pass) : Type 0 where
  pub first : (number_of x ≡ number_of p) × (seen x ≡ seen p) × (marks x ≡ marks p)
  pub second : (number_of y ≡ number_of q) × (seen y ≡ seen q) × (marks y ≡ marks q)
  pub met : IsBehind pass_of seen x y ⊎ IsBehind pass_of seen y x
  pub marked : IsBehind marker_of marks x y ⊎ IsBehind marker_of marks y x

-- the same table and passes
abbrev pub IsAgain : Kept → Kept → Type 0
IsAgain k l = (table_of l ≡ table_of k) × (passes_of l ≡ passes_of k)

abbrev pub plain_reading : Reading → NdReading
plain_reading x = record { running_bw = x.running; this_bw = x.this }

-- the readings stand in the memory, as many as there is room for, and the rest is left
pub record Written (last : List Reading) (before after : List NdReading) : Type 0 where
  pub count : length after ≡ length before
  pub each : (k : ℕ) (x : Reading) (d : NdReading) → k < length before → k < length last → slice_index_or after k d ≡ plain_reading (slice_index_or last k x)
  pub rest : (k : ℕ) (d : NdReading) → length last ≤ k → slice_index_or after k d ≡ slice_index_or before k d

-- the last readings of a closed table are written
abbrev pub AreWritten : Shared → List Pass → List NdReading → List NdReading → Type 0
AreWritten s ps before after = (last : List Reading) × IsClosed s ps last × Written last before after

-- ---- handles
-- two handles lead to passes of one table
abbrev pub AreOfOne : Held → Held → Type 0
AreOfOne x y = (k l : Kept) → Keeps x k → Keeps y l → table_of l ≡ table_of k

-- the last pass that the first had gathered stands by itself in the second
abbrev pub IsPartedInto : Held → Held → Held → Type 0
IsPartedInto before after part = (k l m : Kept) → Keeps before k → Keeps after l → Keeps part m → HasParted k l m

-- the first has gathered the second
abbrev pub TookIn : Held → Held → Held → Type 0
TookIn x y after = (k l m : Kept) → Keeps x k → Keeps y l → Keeps after m → HasGathered k l m

-- two handles' passes have met
abbrev pub HaveMetBy : Held → Held → Held → Held → Type 0
HaveMetBy x y x' y' = (k l m n : Kept) → Keeps x k → Keeps y l → Keeps x' m → Keeps y' n → HaveMet k.pass l.pass m.pass n.pass

-- the readings of the table that the handle led to are written
abbrev pub IsClosedBy : Held → List NdReading → List NdReading → Type 0
IsClosedBy h before after = (k : Kept) → Keeps h k → AreWritten (table_of k) (passes_of k) before after
