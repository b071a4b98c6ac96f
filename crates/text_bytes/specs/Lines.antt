-- The lines of a text, and the words of a line.
use Rattle.std.specs.Prelude.{ℕ, Bool, ◌==◌, List}
use Rattle.std.specs.List.{slice_split, before_first}

-- the byte that ends a line
abbrev pub is_end : ℕ → Bool
is_end b = b == 10

-- the lines of a text, and behind the last byte that ends one what is left, which is no whole line
abbrev pub parts_of : List ℕ → List (List ℕ)
parts_of text = slice_split is_end text

abbrev pub is_space : ℕ → Bool
is_space b = b == 32

-- the words of a line: its parts between single spaces
abbrev pub words_of : List ℕ → List (List ℕ)
words_of line = slice_split is_space line

-- the first of them
abbrev pub word_of : List ℕ → List ℕ
word_of text = before_first is_space text
