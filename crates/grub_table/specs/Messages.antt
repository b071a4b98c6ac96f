-- What each fault prints: its number and its name.
use Rattle.std.specs.Prelude.{ℕ, List, codes, ◌++◌, decimal}
use Rattle.grub_table.specs.declared.fault.OpenFault.{OpenFault}
use Rattle.grub_table.specs.declared.fault.OpenFault.TheVariants as opens
use Rattle.grub_table.specs.declared.fault.CloseFault.{CloseFault}
use Rattle.grub_table.specs.declared.fault.CloseWhy.{CloseWhy}
use Rattle.grub_table.specs.declared.fault.CloseWhy.TheVariants.{Missing, NoMemory}

abbrev pub open_fault_text : OpenFault → List ℕ
open_fault_text opens.NoPass = codes "23 NoPass"
open_fault_text opens.TooManyPasses = codes "24 TooManyPasses"
open_fault_text opens.NoMemory = codes "25 NoMemory"

-- how many passes are not there
abbrev pub close_why_text : CloseWhy → List ℕ
close_why_text (Missing n) = codes "26 Missing(" ++ decimal n ++ codes ")"
close_why_text NoMemory = codes "42 NoMemory"

-- a refused close prints why it was refused
abbrev pub close_fault_text : CloseFault → List ℕ
close_fault_text fault = close_why_text fault.why
