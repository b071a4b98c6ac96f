-- What each fault prints: its number and its name.
use Rattle.std.specs.Prelude.{ℕ, List, codes}
use Rattle.grub_workers.specs.declared.outcome.RunFault.{RunFault}
use Rattle.grub_workers.specs.declared.outcome.RunFault.TheVariants.{NoMemory, Spawn}

abbrev pub run_fault_text : RunFault → List ℕ
run_fault_text NoMemory = codes "38 NoMemory"
run_fault_text Spawn = codes "39 Spawn"
