-- The lines of a text, one after another, up to the first that has a flaw or behind which no more is wanted.
use Rattle.std.specs.Prelude.{ℕ, Bool, ◌==◌, ◌+◌, min, List, [], ◌∷◌, ◌++◌, length, Option, Some, None, is_some, unwrap_or, if◌then◌else◌}
use Rattle.text_bytes.specs.Lines.{parts_of}
use Rattle.trace_fields.specs.Numbers.{before_end}
use Rattle.trace_fields.specs.Head.{is_lost}
use Rattle.trace_lines.specs.Clock.{clock_by, drift, halt_of_clock}
use Rattle.trace_lines.specs.Lines.{told_by}
use Rattle.trace_lines.specs.declared.line.ToldLine.{ToldLine}
use Rattle.trace_data.specs.declared.line.Flaw.{Flaw}
use Rattle.trace_data.specs.declared.line.Flaw.TheVariants.{LostEvents, BadTraceLine}
use Rattle.trace_data.specs.declared.line.RecordLine.{RecordLine}
use Rattle.trace_data.specs.declared.line.RecordLine.TheVariants.{Flawed}
use Rattle.trace_lines.specs.declared.clock.Clock.{Clock}
use Rattle.trace_lines.specs.declared.clock.Clock.TheVariants.{Untold}
use Rattle.trace_lines.specs.declared.reader.Halt.{Halt}

-- a line without a byte 0D at its end
abbrev pub without_return : List ℕ → List ℕ
without_return line = unwrap_or (before_end (13 ∷ []) line) line

-- the number of the line behind this one
abbrev pub next : ℕ → ℕ
next line = min (line + 1) 18446744073709551615

-- what is wrong with a line
abbrev pub flaw_told : RecordLine → Option Flaw
flaw_told (Flawed flaw) = Some flaw
flaw_told line = None

-- what a line comes to: whether more is wanted, and what the lines came to with it
pub record After (S : Type 0) : Type 0 where
  pub more : Bool
  pub seen : S

-- how far a text was read: where it halts, how many lines ended, the bytes behind them, what they say of the clock, and what they came to
pub record Progress (S : Type 0) : Type 0 where
  pub halt : Option Halt
  pub line : ℕ
  pub rest : List ℕ
  pub clock : Clock
  pub seen : S

-- the first of some parts stands behind these bytes
abbrev pub onto : List ℕ → List (List ℕ) → List (List ℕ)
onto bytes [] = bytes ∷ []
onto bytes (part ∷ parts) = (bytes ++ part) ∷ parts

abbrev pub halt_at : ℕ → Bool → Option Halt
halt_at line more = if more then None else Some (record { line = line; flaw = None })

-- what is wrong with a last line that no byte ends
abbrev pub cut_flaw : List ℕ → Flaw
cut_flaw line = if is_lost line then LostEvents else BadTraceLine

-- where a text halts that ends here: at a line, at a last one that no byte ends, or where its clock is wrong
abbrev pub halt_at_end : Option Halt → ℕ → List ℕ → Clock → Option Halt
halt_at_end halt line rest clock =
    if is_some halt then halt
    else (if length rest == 0 then halt_of_clock clock else Some (record { line = next line; flaw = Some (cut_flaw rest) }))

module _ {S : Type 0} (step : ℕ → ToldLine (List ℕ) → S → After S) where
  -- a line of this number that has no flaw, or this one
  abbrev pub taken_by : Option Flaw → ℕ → ToldLine (List ℕ) → Clock → S → Progress S
  taken_by None n told clock seen = record { halt = halt_at n (step n told seen).more; line = n; rest = []; clock = clock; seen = (step n told seen).seen }
  taken_by (Some flaw) n told clock seen = record { halt = Some (record { line = n; flaw = Some flaw }); line = n; rest = []; clock = clock; seen = seen }

  abbrev pub taken : ℕ → ToldLine (List ℕ) → Clock → S → Progress S
  taken n told clock seen = taken_by (flaw_told told.line) n told (clock_by (drift told.line) n clock) seen

  -- one line more
  abbrev pub line_ended : Progress S → List ℕ → Progress S
  line_ended p line = taken (next p.line) (told_by (without_return line)) p.clock p.seen

  -- the parts of a text, each of which but the last is a line
  abbrev pub through : List (List ℕ) → Progress S → Progress S
  through [] p = p
  through (rest ∷ []) p = record p { rest = rest }
  through (line ∷ part ∷ parts) p =
      let q = line_ended p line in
      if is_some q.halt then q else through (part ∷ parts) q

  -- some bytes more, behind what was read; none is read behind a halt
  abbrev pub further : Progress S → List ℕ → Progress S
  further p bytes = if is_some p.halt then p else through (onto p.rest (parts_of bytes)) p

  -- a text from its beginning
  abbrev pub reading : List ℕ → S → Progress S
  reading text start = through (parts_of text) (record { halt = None; line = 0; rest = []; clock = Untold; seen = start })
