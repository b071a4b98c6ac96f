-- What a fault of the files prints without its place: its number and its name.
use Rattle.std.specs.Prelude.{ℕ, List, codes}
use Rattle.grub_trace.specs.Messages.{kind_text}
use Rattle.grub_trace.specs.declared.fault.TraceFault.{TraceFault}
use Rattle.grub_trace.specs.declared.fault.TraceFault.TheVariants.{At, NoMemory}

abbrev pub placeless_text : TraceFault → List ℕ
placeless_text (At kind file line) = kind_text kind
placeless_text NoMemory = codes "37 NoMemory"
