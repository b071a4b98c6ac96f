-- What each fault prints: its number and its name.
use Rattle.std.specs.Prelude.{ℕ, List, codes}

abbrev pub play_fault_text : List ℕ
play_fault_text = codes "48 NoMemory"

abbrev pub view_fault_text : List ℕ
view_fault_text = codes "48 NoMemory"
