-- Numbers that a step may be made of, whether the memory is a book or not.
use Rattle.std.specs.Prelude.{◌≤◌}
use Rattle.grub_book.specs.Bandwidth.{Capacity, IsReservation, IsCapacity}
use Rattle.grub_book.specs.Server.{Fits}
use Rattle.grub_book.specs.declared.rules.TheConstants.{COUNT_MAX}
use Rattle.grub_book.specs.declared.event.Reading.{Reading}
use Rattle.grub_book.specs.declared.place.Record.{Record}

-- a record whose numbers a step may be made of
pub record CanStand (x : Record) : Type 0 where
  pub reservation : IsReservation x.params
  pub fits : Fits x.server x.params
  pub count : x.count ≤ COUNT_MAX

-- a runqueue whose numbers a step may be made of
pub record IsReady (c : Capacity) (now : Reading) : Type 0 where
  pub capacity : IsCapacity c
  pub running : now.running ≤ now.this
  pub this : now.this ≤ c.most
