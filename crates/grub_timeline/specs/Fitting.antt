-- Which entries may be viewed.
use Rattle.std.specs.Prelude.{◌<◌, List, All, length}
use Rattle.grub_book.specs.Machine.{Machine}
use Rattle.grub_book.specs.Op.{IsOp}
use Rattle.grub_plan.specs.declared.entry.Ask.{Ask}
use Rattle.grub_plan.specs.declared.entry.Ask.TheVariants.{Call, Read}
use Rattle.grub_timeline.specs.declared.told.ToldEntry.{ToldEntry}

-- the task of a call is there, and its op is in range
abbrev pub IsAskIn : Machine → Ask → Type 0
IsAskIn s (Call t op) = (t < length s.tasks) × IsOp s op
IsAskIn s Read = Unit {0}

-- and so is the runqueue that it is asked on
pub record IsToldIn (s : Machine) (x : ToldEntry) : Type 0 where
  pub queue : x.runqueue < length s.queues
  pub ask : IsAskIn s x.entry.ask

-- the entries are of the runqueues and tasks of a setup
abbrev pub AreToldIn : Machine → List ToldEntry → Type 0
AreToldIn s told = All (IsToldIn s) told
