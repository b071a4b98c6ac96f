-- What each fault prints: its number and its name.
use Rattle.std.specs.Prelude.{ℕ, List, codes}

abbrev pub text_fault_text : List ℕ
text_fault_text = codes "43 NoMemory"
