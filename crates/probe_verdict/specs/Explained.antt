-- Which one changed rule explains a record.
use Rattle.std.specs.Prelude.{ℕ, ◌/◌, Bool, not, ◌&&◌, ◌==◌, nat_lt}

-- by the answers of the play as it stands, and of the play with the rule changed
abbrev pub is_explained : Bool → Bool → Bool
is_explained agrees agrees_changed = not agrees && agrees_changed

-- by how many comparisons differ in the one and in the other: not none, and a tenth of them at most
abbrev pub is_guess_of : ℕ → ℕ → Bool
is_guess_of as_it_stands changed = not (changed == 0) && not (nat_lt (as_it_stands / 10) changed)
