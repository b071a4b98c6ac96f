-- The way of a text to a writer, through a buffer.
use Rattle.std.specs.Prelude.{◌≡◌, ℕ, List, ◌++◌, ⊤, Option, Some, None}

-- The writer was handed what the buffer had kept and then the text, all but what is left. What a writer holds may not be known.
abbrev pub HandsOn : Option (List ℕ) → Option (List ℕ) → List ℕ → List ℕ → List ℕ → Type 0
HandsOn None new kept text left = ⊤
HandsOn (Some xs) None kept text left = ⊥
HandsOn (Some xs) (Some ys) kept text left = (told : List ℕ) × (ys ≡ xs ++ told) × (kept ++ text ≡ told ++ left)

-- The writer was handed a beginning of what the buffer had kept and of the text.
abbrev pub HandsPart : Option (List ℕ) → Option (List ℕ) → List ℕ → List ℕ → Type 0
HandsPart old new kept text = (left : List ℕ) × HandsOn old new kept text left
