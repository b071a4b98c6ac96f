-- What a fault prints: its number and its name.
use Rattle.std.specs.Prelude.{ℕ, List, codes}

abbrev pub wheel_fault_text : List ℕ
wheel_fault_text = codes "27 NoMemory"
