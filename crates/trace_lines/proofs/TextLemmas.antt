-- The lines of a text that comes in pieces.
use Rattle.std.proofs.Common.{◌≡◌, ℕ, Bool, true, false, not, if◌then◌else◌, List, [], ◌∷◌, ◌++◌, Option, Some, None, is_some, refl, sym, ap, ◌∙◌, append_assoc, append-nil}
use Rattle.std.specs.List.{onto_first}
use Rattle.trace_lines.specs.declared.line.ToldLine.{ToldLine}
use Rattle.trace_lines.specs.Clock.{clock_by, drift}
use Rattle.trace_lines.specs.Lines.{told_by}
use Rattle.trace_data.specs.declared.line.Flaw.{Flaw}
use Rattle.trace_lines.specs.declared.clock.Clock.{Clock}
use Rattle.trace_lines.specs.declared.clock.Clock.TheVariants.{Untold}
use Rattle.trace_lines.specs.declared.reader.Halt.{Halt}
use Rattle.trace_lines.specs.Reading.{After, Progress, flaw_told, further, line_ended, next, onto, reading, taken_by, through, without_return}
use Rattle.text_bytes.specs.Lines.{is_end, parts_of}
use Rattle.text_bytes.proofs.Splits.{has_part}

-- no bytes in front of a text's parts
onto_none : (xs : List ℕ) → onto [] (parts_of xs) ≡ parts_of xs
onto_none xs = let k = has_part is_end xs in rw k.2 refl

-- one byte more in front of a text's parts
onto_one : (c : List ℕ) (x : ℕ) (xs : List ℕ) → onto c (onto_first x (parts_of xs)) ≡ onto (c ++ x ∷ []) (parts_of xs)
onto_one c x xs = let k = has_part is_end xs in rw (k.2, append_assoc) refl

-- whether a text halts

pub not_halted : (halt : Option Halt) (b : Bool) → is_some halt ≡ not b → b ≡ true → is_some halt ≡ false
not_halted halt b is e = is ∙ ap not e

pub halted : (halt : Option Halt) (b : Bool) → is_some halt ≡ not b → b ≡ false → is_some halt ≡ true
halted halt b is e = is ∙ ap not e

module _ {S : Type 0} (step : ℕ → ToldLine (List ℕ) → S → After S) where
  -- none is read behind a halt
  pub further_stopped : (p : Progress S) (bytes : List ℕ) → is_some p.halt ≡ true → further step p bytes ≡ p
  further_stopped p bytes e = rw e refl

  -- bytes that end no line are kept
  pub further_kept : (p : Progress S) (bytes : List ℕ) → is_some p.halt ≡ false → parts_of bytes ≡ bytes ∷ [] → further step p bytes ≡ record p { rest = p.rest ++ bytes }
  further_kept p bytes e is = rw (e, is) refl

  -- what was kept before a text's parts is not looked at
  through_rest : (part : List ℕ) (parts : List (List ℕ)) (p : Progress S) (r : List ℕ) → through step (part ∷ parts) p ≡ through step (part ∷ parts) (record p { rest = r })
  through_rest part [] p r = refl
  through_rest part (next ∷ parts) p r = refl

  -- a line, and what follows it
  through_line : (line xs : List ℕ) (p : Progress S) → through step (line ∷ parts_of xs) p ≡ (if is_some (line_ended step p line).halt then line_ended step p line else through step (onto [] (parts_of xs)) (line_ended step p line))
  through_line line xs p = let k = has_part is_end xs in rw k.2 refl

  -- nothing is kept behind a line
  rest_none : (flaw : Option Flaw) (n : ℕ) (told : ToldLine (List ℕ)) (clock : Clock) (seen : S) → (taken_by step flaw n told clock seen).rest ≡ []
  rest_none None n told clock seen = refl
  rest_none (Some flaw) n told clock seen = refl

  kept_none : (p : Progress S) (line : List ℕ) → (line_ended step p line).rest ≡ []
  kept_none p line = rest_none (flaw_told (told_by (without_return line)).line) (next p.line) (told_by (without_return line)) (clock_by (drift (told_by (without_return line)).line) (next p.line) p.clock) p.seen

  -- bytes that end a line
  pub further_line : (p q : Progress S) (bytes line after : List ℕ) → is_some p.halt ≡ false → parts_of bytes ≡ line ∷ parts_of after → q ≡ line_ended step p (p.rest ++ line) → further step p bytes ≡ further step q after
  further_line p q bytes line after e is at = rw (e, is, at, kept_none p (p.rest ++ line)) (through_line (p.rest ++ line) after p)

  -- more bytes behind those of a text
  pub through_more : (xs more c : List ℕ) (p : Progress S) → is_some p.halt ≡ false → through step (onto c (parts_of (xs ++ more))) p ≡ further step (through step (onto c (parts_of xs)) p) more
  through_more [] more c p e =
      let k = has_part is_end more in
      rw (append-nil, e, k.2) (through_rest (c ++ k.0) k.1 p c)
  through_more (x ∷ xs) more c p e = byte (is_end x) refl (λ d q none. through_more xs more d q none)
    where
      q : Progress S
      q = line_ended step p (c ++ [])

      Again : Type 0
      Again = (d : List ℕ) (q : Progress S) → is_some q.halt ≡ false → through step (onto d (parts_of (xs ++ more))) q ≡ further step (through step (onto d (parts_of xs)) q) more

      ended : (b : Bool) → is_some q.halt ≡ b → Again → (if is_some q.halt then q else through step (onto [] (parts_of (xs ++ more))) q) ≡ further step (if is_some q.halt then q else through step (onto [] (parts_of xs)) q) more
      ended true is again = rw is (sym (further_stopped q more is))
      ended false is again = rw is (again [] q is)

      byte : (b : Bool) → is_end x ≡ b → Again → through step (onto c (parts_of (x ∷ xs ++ more))) p ≡ further step (through step (onto c (parts_of (x ∷ xs))) p) more
      byte true is again = rw (is, through_line (c ++ []) (xs ++ more) p, through_line (c ++ []) xs p) (ended (is_some q.halt) refl again)
      byte false is again = rw (is, onto_one c x (xs ++ more), onto_one c x xs) (again (c ++ x ∷ []) p e)

  -- a text that is read on
  pub reading_more : (text more : List ℕ) (start : S) → reading step (text ++ more) start ≡ further step (reading step text start) more
  reading_more text more start =
      let first : Progress S = record { halt = None; line = 0; rest = []; clock = Untold; seen = start } in
      let e = through_more text more [] first refl in
      rw (← onto_none (text ++ more), ← onto_none text) e

  -- a text that halts, whatever follows it
  pub reading_stopped : (text more : List ℕ) (start : S) → is_some (reading step text start).halt ≡ true → reading step text start ≡ reading step (text ++ more) start
  reading_stopped text more start e = sym (reading_more text more start ∙ further_stopped (reading step text start) more e)
