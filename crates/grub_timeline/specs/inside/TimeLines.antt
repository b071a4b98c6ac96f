-- One entry of a time line.
use Rattle.std.specs.Prelude.{ℕ}
use Rattle.grub_plan.specs.declared.entry.Ask.{Ask}
use Rattle.grub_plan.specs.declared.entry.Answer.{Answer}
use Rattle.grub_plan.specs.Asked.{entry}
use Rattle.grub_timeline.specs.declared.told.ToldEntry.{ToldEntry}

abbrev pub told_of : ℕ → ℕ → Ask → Answer → ToldEntry
told_of r m ask answer = record { runqueue = r; entry = entry m ask answer }
