-- What lines below a head say, and the script that they are.
use Rattle.std.specs.Prelude.{◌≡◌, ◌<◌, ◌≤◌, ℕ, true, List, [], Option, Some, None, Result, Ok, Err, length, map, ◌+◌, ◌++◌, ◌∷◌, not, nat_le, if◌then◌else◌}
use Rattle.std.specs.Borrow.{Bor}
use Rattle.grub_trace.specs.declared.fault.TraceFault.{TraceFault}
use Rattle.grub_trace.specs.declared.fault.Kind.{Kind}
use Rattle.grub_trace.specs.declared.fault.Kind.TheVariants.{BadNumber, MomentGoesBack, OutOfRange}
use Rattle.grub_plan.specs.declared.line.Act.{Act}
use Rattle.grub_plan.specs.declared.line.Line as lines
use Rattle.grub_trace.specs.declared.raw.Head.{Head}
use Rattle.grub_trace.specs.declared.raw.RawFile.{RawFile}
use Rattle.grub_trace.specs.inside.Heads.{lines_below}
use Rattle.grub_trace.specs.declared.raw.RawScript.{RawScript}
use Rattle.grub_trace.specs.declared.tasks.Tasks.{Tasks}
use Rattle.grub_trace.specs.declared.version.Version.{Version}
use Rattle.grub_trace.specs.Faults.{last_of}
use Rattle.grub_trace.specs.Forms.{at_moment, form_of, is_number}
use Rattle.text_bytes.specs.Digits.{value}
use Rattle.text_bytes.specs.Lines.{words_of}
use Rattle.grub_plan.specs.Plans.{Line}
use Rattle.grub_trace.specs.Tree.{Happening, is_moment, names_of}
use Rattle.grub_trace.specs.inside.Forms.{is_task}
use Rattle.grub_trace.specs.inside.Reading.{Body, Faults, of_file, Read, declarations, line_view, raw_view, says, script_from, take_form, take_line, times_of}

-- the next moment is not before the last one
abbrev pub IsNotBefore : {U : Type 0} → Result U Kind → ℕ → ℕ → Type 0
IsNotBefore (Ok u) last at = last ≤ at
IsNotBefore (Err k) last at = (k ≡ MomentGoesBack) × (at < last)

-- what is wrong with a moment after the last one
abbrev pub plain_fault : ℕ → List ℕ → Option Kind
plain_fault last w = if not (is_number w) then Some BadNumber else (if not (is_moment (value w)) then Some OutOfRange else (if not (nat_le last (value w)) then Some MomentGoesBack else None))

-- what a line says is said, or has this fault
abbrev pub GivesLine : Result (lines.Line (Bor (List ℕ))) Kind → Read → Result Read Kind → Type 0
GivesLine (Ok l) r total = total ≡ Ok (says (line_view l) r)
GivesLine (Err k) r total = total ≡ Err k

-- what is said to happen, after whatever was read of the file
abbrev pub TakesAct : Result (lines.Line (Bor (List ℕ))) Kind → Version → ℕ → List ℕ → Act (Bor (List ℕ)) (Bor (List ℕ)) → Type 0
TakesAct result version last at act = (r : Read) → r.version ≡ version → last_of (times_of r.happenings) ≡ last → GivesLine result r (take_form r (at_moment at (raw_view act)))

-- the same of a line, which is no task's above the first moment
abbrev pub TakesLine : Result (lines.Line (Bor (List ℕ))) Kind → Version → ℕ → List ℕ → Type 0
TakesLine result version last line = (r : Read) → r.version ≡ version → last_of (times_of r.happenings) ≡ last → (is_task (form_of (words_of line)) ≡ true → 0 < length r.happenings) → GivesLine result r (take_line r line)

-- the lines, or the first of them that names a task which no file declares
abbrev pub script_in : List Line → Option ℕ → Result (List Line) ℕ
script_in lines None = Ok lines
script_in lines (Some n) = Err n

-- lines that these happenings are, from line `first` on
pub record IsScript (names : List (List ℕ)) (first : ℕ) (happenings : List Happening) (lines : List Line) (unknown : Option ℕ) : Type 0 where
  pub times : times_of happenings ≡ map (λ l. l.m) lines
  pub script : script_from names [] first happenings ≡ script_in lines unknown

-- what line n says, after lines that are the happenings from any line on
abbrev pub SaysMore : {U E : Type 0} → Result U E → List (List ℕ) → RawScript → RawScript → ℕ → Happening → Type 0
SaysMore (Ok u) names old new n h = (first : ℕ) (happenings : List Happening) → n ≡ first + length happenings → IsScript names first happenings old.lines.items old.unknown
    → IsScript names first (happenings ++ h ∷ []) new.lines.items new.unknown
SaysMore (Err e) names old new n h = Unit {0}

-- the script of what stands below a head, or the fault
abbrev pub GivesScript : Result RawScript TraceFault → Tasks → Head → Type 0
GivesScript (Ok s) t h = (r : Read) × (of_file h.file (lines_below (declarations t) h) ≡ Ok r) × IsScript (names_of (declarations t)) h.first r.happenings s.lines.items s.unknown
GivesScript (Err e) t h = Faults e (of_file h.file (lines_below (declarations t) h))

-- the file that stands below a head
pub record IsBody (t : Tasks) (b : Body) (f : RawFile) : Type 0 where
  pub queue : b.queue ≡ f.queue
  pub script : script_from (names_of (declarations t)) [] b.first b.happenings ≡ script_in f.script.lines.items f.script.unknown

abbrev pub AreBodies : Tasks → List Body → List RawFile → Type 0
AreBodies t [] [] = Unit {0}
AreBodies t [] (f ∷ fs) = ⊥
AreBodies t (b ∷ bs) [] = ⊥
AreBodies t (b ∷ bs) (f ∷ fs) = IsBody t b f × AreBodies t bs fs

-- what was read below a head, or its fault
abbrev pub GivesBody : Result RawFile TraceFault → Tasks → Result Body (Kind × ℕ × ℕ) → Type 0
GivesBody (Ok f) t total = (b : Body) × (total ≡ Ok b) × IsBody t b f
GivesBody (Err e) t total = Faults e total
