-- Pieces of an opened trace that are read one after another.
use Rattle.std.specs.Prelude.{◌≡◌, ◌⊎◌, ℕ, List, []}
use Rattle.std.specs.List.{FoldsTo}
use Rattle.text_bytes.specs.Source.{Gives, Reader}
use Rattle.trace_lines.specs.declared.line.ToldLine.{ToldLine}
use Rattle.trace_lines.specs.Reading.{After, Progress}
use Rattle.trace_lines.specs.Told.{NeedsNoMore, ReadsOn}

-- whatever text was read, it is read on by a piece
unfoldable pub Reads : {S : Type 0} → (ℕ → ToldLine (List ℕ) → S → After S) → Progress S → List ℕ → Progress S → Type 0
Reads step old piece new = ReadsOn step piece old new

module _ {N D S : Type 0} (g : Reader N D) (read : N) (step : ℕ → ToldLine (List ℕ) → S → After S) where
  -- a read may give this piece, and the text was read on by it
  abbrev pub TookPiece : D → Progress S → D → Progress S → Type 0
  TookPiece file old after new = (piece : List ℕ) × Gives g read file piece after × Reads step old piece new

  -- it was the last one: the file gives no more, or no more is needed
  abbrev pub TookLast : D → Progress S → D → Progress S → Type 0
  TookLast file old after new = (piece : List ℕ) × Gives g read file piece after × Reads step old piece new × ((piece ≡ []) ⊎ NeedsNoMore step new)

  -- reads may give these pieces, and the text was read on by them
  pub record Took (file : D) (old : Progress S) (after : D) (new : Progress S) : Type 0 where
    pub pieces : List (List ℕ)
    pub given : FoldsTo (Gives g read) file pieces after
    pub taken : FoldsTo (Reads step) old pieces new

  -- all of them: the read after them gives nothing
  pub record TookAll (file : D) (old new : Progress S) : Type 0 where
    pub last : D
    pub before : Progress S
    pub after : D
    pub took : Took file old last before
    pub ended : Gives g read last [] after
    pub taken : Reads step before [] new

  -- the first of them, behind which no more is needed
  pub record TookEnough (file : D) (old new : Progress S) : Type 0 where
    pub after : D
    pub took : Took file old after new
    pub done : NeedsNoMore step new
