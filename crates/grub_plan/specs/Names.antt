-- The names that tasks may have.
use Rattle.std.specs.Prelude.{ℕ, Bool, not, ◌==◌, ◌&&◌, ◌||◌, nat_le, List, length}
use Rattle.std.specs.List.{list_all}
use Rattle.grub_plan.specs.declared.name.TheConstants.{NAME_MAX}

abbrev pub is_name_byte : ℕ → Bool
is_name_byte b = (nat_le 65 b && nat_le b 90) || (nat_le 97 b && nat_le b 122) || (nat_le 48 b && nat_le b 57) || b == 95 || b == 45

-- at least one byte, and not too many: letters, digits, `_` and `-`
abbrev pub is_name : List ℕ → Bool
is_name name = not (length name == 0) && nat_le (length name) NAME_MAX && list_all is_name_byte name
