-- What a reader promises of a text, wherever that is cut into pieces.
use Rattle.std.specs.Prelude.{◌≡◌, ℕ, List, ◌++◌}
use Rattle.trace_lines.specs.declared.line.ToldLine.{ToldLine}
use Rattle.trace_lines.specs.Reading.{After, Progress, reading}

module _ {S : Type 0} (step : ℕ → ToldLine (List ℕ) → S → After S) where
  -- whatever text was read, it is read on by a piece
  abbrev pub ReadsOn : List ℕ → Progress S → Progress S → Type 0
  ReadsOn piece old new =
      (start : S) → (text : List ℕ) → old ≡ reading step text start → new ≡ reading step (text ++ piece) start

  -- whatever follows the text that was read, it need not be given
  abbrev pub NeedsNoMore : Progress S → Type 0
  NeedsNoMore p = (start : S) → (text more : List ℕ) → p ≡ reading step text start → p ≡ reading step (text ++ more) start
