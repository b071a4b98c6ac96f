-- Pieces of a trace that are read one after another, and the text that they make.
use Rattle.std.proofs.Common.{◌≡◌, ◌⊎◌, inl, inr, ℕ, List, [], ◌∷◌, ◌++◌, None, refl, sym, ap, ◌∙◌, subst, append-nil, append_assoc}
use Rattle.std.proofs.lemmas.Fn.{FoldsTo-push}
use Rattle.std.specs.List.{FoldsTo, concat}
use Rattle.text_bytes.specs.Source.{Gives, Reader}
use Rattle.trace_lines.specs.declared.line.ToldLine.{ToldLine}
use Rattle.trace_lines.specs.declared.clock.Clock.TheVariants.{Untold}
use Rattle.trace_lines.specs.declared.reader.RecordReader.{RecordReader}
use Rattle.trace_lines.specs.Keeping.{progress}
use Rattle.trace_lines.specs.Reading.{After, Progress, halt_at_end, reading}
use Rattle.trace_lines.specs.Told.{NeedsNoMore}
use Rattle.trace_file.specs.Reading.{ComesTo, IsSoIn}
use Rattle.trace_file.specs.inside.Taking.{Reads, Took, TookAll, TookEnough}

module _ {N D S : Type 0} (g : Reader N D) (read : N) (step : ℕ → ToldLine (List ℕ) → S → After S) where
  -- one piece more
  pub took_more : (file : D) (old : Progress S) (mid : D) (before : Progress S) (piece : List ℕ) (after : D) (new : Progress S) → Took g read step file old mid before → Gives g read mid piece after → Reads step before piece new → Took g read step file old after new
  took_more file old mid before piece after new took gives reads = record { pieces = took.pieces ++ piece ∷ []; given = FoldsTo-push (Gives g read) file took.pieces mid piece after took.given gives; taken = FoldsTo-push (Reads step) old took.pieces before piece new took.taken reads }

  -- the last piece
  pub took_last : (file : D) (old : Progress S) (mid : D) (before : Progress S) (piece : List ℕ) (after : D) (new : Progress S) → Took g read step file old mid before → Gives g read mid piece after → Reads step before piece new → (piece ≡ []) ⊎ NeedsNoMore step new → TookAll g read step file old new ⊎ TookEnough g read step file old new
  took_last file old mid before piece after new took gives reads (inl none) =
      inl (record { last = mid; before = before; after = after; took = took; ended = subst (λ (p : List ℕ). Gives g read mid p after) none gives; taken = subst (λ (p : List ℕ). Reads step before p new) none reads })
  took_last file old mid before piece after new took gives reads (inr done) =
      inr (record { after = after; took = took_more file old mid before piece after new took gives reads; done = done })

module _ {S : Type 0} (step : ℕ → ToldLine (List ℕ) → S → After S) (start : S) where
  -- a text from its beginning was read so far
  abbrev pub Has : List ℕ → Progress S → Type 0
  Has text p = p ≡ reading step text start

  given_pieces : (text : List ℕ) (pieces : List (List ℕ)) (old new : Progress S) → FoldsTo (Reads step) old pieces new → Has text old → Has (text ++ concat pieces) new
  unfolding Reads
  given_pieces text [] old new same has = rw append-nil (subst (Has text) same has)
  given_pieces text (piece ∷ pieces) old new taken has =
      subst (λ (t : List ℕ). Has t new) (append_assoc text piece (concat pieces))
      (given_pieces (text ++ piece) pieces taken.0 new taken.2 (taken.1 start text has))

  -- what the lines of a text come to that was read so far and ends here
  comes_by : (text : List ℕ) (p : Progress S) → Has text p → ComesTo step start (halt_at_end p.halt p.line p.rest p.clock) p.seen text
  comes_by text p has = record {
    halts = sym (ap (λ (q : Progress S). halt_at_end q.halt q.line q.rest q.clock) has);
    comes = sym (ap (λ (q : Progress S). q.seen) has);
  }

module _ {N D S : Type 0} (g : Reader N D) (read : N) (step : ℕ → ToldLine (List ℕ) → S → After S) where
  pub comes_to : (file : D) (start : S) (old new : Progress S) → Has step start [] old → TookAll g read step file old new ⊎ TookEnough g read step file old new → IsSoIn g read file (ComesTo step start (halt_at_end new.halt new.line new.rest new.clock) new.seen)
  unfolding Reads
  comes_to file start old new has (inl all) =
      let text : List ℕ = concat all.took.pieces in
      let before : Has step start text all.before = given_pieces step start [] all.took.pieces old all.before all.took.taken has in
      let whole : Has step start text new = subst (λ (t : List ℕ). Has step start t new) (append-nil text) (all.taken start text before) in
      (text, all.after, inl ((all.last, record { pieces = all.took.pieces; each = all.took.given; whole = refl }, all.ended), comes_by step start text new whole))
  comes_to file start old new has (inr enough) =
      let text : List ℕ = concat enough.took.pieces in
      let part : Has step start text new = given_pieces step start [] enough.took.pieces old new enough.took.taken has in
      (text, enough.after, inr (record { pieces = enough.took.pieces; each = enough.took.given; whole = refl }, λ more. comes_by step start (text ++ more) new (enough.done start text more part)))

-- a reader to which nothing came yet
pub has_none : {S : Type 0} (step : ℕ → ToldLine (List ℕ) → S → After S) (start : S) (reader : RecordReader) → reader.carry.items ≡ [] → reader.line ≡ 0 → reader.clock ≡ Untold → reader.halt ≡ None → Has step start [] (progress reader start)
has_none step start reader carry line clock halt = rw (carry, line, clock, halt) refl
