-- The texts that the slices of the code point to.
use Rattle.std.specs.Prelude.{ℕ, Bool, true, not, ◌&&◌, ◌+◌, List, [], ◌∷◌, length, drop, Option, Some, None}
use Rattle.std.specs.Borrow.{Bor}
use Rattle.text_bytes.specs.Lines.{is_space, words_of}
use Rattle.trace_probes.specs.declared.value.FieldValue.{FieldValue}

-- the words that are left
abbrev pub words_left : Option (Bor (List ℕ)) → List (List ℕ)
words_left None = []
words_left (Some text) = words_of text.now

abbrev pub next_text : FieldValue × Option (Bor (List ℕ)) → FieldValue × List (List ℕ)
next_text v = (v.0, words_left v.1)

-- how many bytes are left, and one more where there is a word
abbrev pub left_length : Option (Bor (List ℕ)) → ℕ
left_length None = 0
left_length (Some text) = length text.now + 1

-- the words behind the first one of a text
abbrev pub behind_word : List ℕ → List (List ℕ)
behind_word text = drop 1 (words_of text)

-- whether a key has no space
abbrev pub plain : List ℕ → Bool
plain [] = true
plain (c ∷ cs) = not (is_space c) && plain cs
