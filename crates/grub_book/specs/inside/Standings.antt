-- What a book keeps: its records are sound, and its running totals are their sums.
use Rattle.std.specs.Prelude.{◌≡◌, ℕ, ◌<◌, min, List, length, slice_index_or, Option, Some, None}
use Rattle.grub_book.specs.Machine.{Machine, IsMachine}
use Rattle.grub_book.specs.Server.{Fits}
use Rattle.grub_book.specs.Sums.{Records, record_at, reading_of}
use Rattle.grub_book.specs.Sound.{Standing, IsSound}
use Rattle.grub_book.specs.declared.event.Reading.{Reading}

pub record IsStanding (b : Standing) : Type 0 where
  pub machine : IsMachine b.setup
  pub sound : IsSound b.setup b.records

-- each reading that is kept is the sum, added up afresh
abbrev pub AreTotals : Machine → Records → List Reading → Type 0
AreTotals s book readings = (r : ℕ) (d : Reading) → r < length s.queues → slice_index_or readings r d ≡ reading_of book r

-- a book that stands, with the readings of its runqueues beside it
pub record IsTotalled (b : Standing) (readings : List Reading) : Type 0 where
  pub standing : IsStanding b
  pub one_each : length readings ≡ length b.setup.queues
  pub totals : AreTotals b.setup b.records readings

-- each server has a budget within its reservation
abbrev pub AllFit : Records → Type 0
AllFit book = (t : ℕ) → t < length book → Fits (record_at book t).server (record_at book t).params

-- the lesser of a number and of a moment, if there is one
abbrev pub lesser_of : ℕ → Option ℕ → ℕ
lesser_of least None = least
lesser_of least (Some m) = min least m
