-- The word of a view, as its parser reads it.
use Rattle.std.specs.Prelude.{◌≡◌, ℕ, List, Result, Ok, Err}
use Rattle.std.specs.declared.convert.Infallible.{Infallible}
use Rattle.grubrun.specs.declared.view_word.ViewWord.{ViewWord}
use Rattle.grubrun.specs.ViewWords.{view_word}

-- that is what is read of it
abbrev pub ReadsViewWord : List ℕ → Result ViewWord Infallible → Type 0
ReadsViewWord text (Ok word) = word ≡ view_word text
ReadsViewWord text (Err e) = ⊥
