-- What is so of the text of a trace, by what the calls that open and read its file may answer; and what its lines come to.
use Rattle.std.specs.Prelude.{◌≡◌, ◌⊎◌, ℕ, List, ◌++◌, Ok, Option, Some, None}
use Rattle.std.specs.Fn.{FnReturnsAt}
use Rattle.text_bytes.specs.Source.{Opener, Reader, Reads, ReadsWhole}
use Rattle.trace_data.specs.declared.line.Flaw.{Flaw}
use Rattle.trace_lines.specs.declared.line.ToldLine.{ToldLine}
use Rattle.trace_lines.specs.declared.reader.Halt.{Halt}
use Rattle.trace_lines.specs.Reading.{After, halt_at_end, reading}

-- it is so of all bytes that an opened file may give, up to a read that gives none; or of its first ones, whatever follows them
abbrev pub IsSoIn : {N D : Type 0} → Reader N D → N → D → (List ℕ → Type 0) → Type 0
IsSoIn {N} {D} g read file P =
    (text : List ℕ) × (after : D)
    × ((ReadsWhole g read file text after × P text)
    ⊎ (Reads g read file text after × ((more : List ℕ) → P (text ++ more))))

-- it is so of a file that may be opened under this name
abbrev pub IsSoOf : {O N D : Type 0} → Opener O D → O → Reader N D → N → List ℕ → (List ℕ → Type 0) → Type 0
IsSoOf {O} {N} {D} o opener g read name P = (file : D) × FnReturnsAt o opener name (Ok file) × IsSoIn g read file P

-- the line with a flaw at which a text halts
abbrev pub flaw_on : ℕ → Option Flaw → Option (ℕ × Flaw)
flaw_on line (Some flaw) = Some (line, flaw)
flaw_on line None = None

abbrev pub flaw_at : Option Halt → Option (ℕ × Flaw)
flaw_at (Some halt) = flaw_on halt.line halt.flaw
flaw_at None = None

module _ {S : Type 0} (step : ℕ → ToldLine (List ℕ) → S → After S) where
  -- a text halts there, or at no line, and its lines up to there come to this
  pub record ComesTo (start : S) (halt : Option Halt) (seen : S) (text : List ℕ) : Type 0 where
    pub halts : halt_at_end (reading step text start).halt (reading step text start).line (reading step text start).rest (reading step text start).clock ≡ halt
    pub comes : (reading step text start).seen ≡ seen
