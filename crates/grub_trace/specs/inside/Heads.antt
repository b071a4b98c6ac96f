-- The heads of files, and what stands below them.
use Rattle.std.specs.Prelude.{◌≡◌, ℕ, false, List, [], ◌∷◌, ◌++◌, length, Option, Some, None, Result, Ok, Err, ◌+◌, ◌≤◌}
use Rattle.grub_book.specs.Bandwidth.{Capacity}
use Rattle.grub_trace.specs.declared.version.Version.{Version}
use Rattle.grub_trace.specs.declared.fault.Kind.{Kind}
use Rattle.grub_trace.specs.declared.fault.TraceFault.{TraceFault}
use Rattle.grub_trace.specs.declared.raw.Head.{Head}
use Rattle.grub_trace.specs.Tree.{Declaration}
use Rattle.text_bytes.specs.Lines.{parts_of}
use Rattle.grub_trace.specs.inside.Forms.{begins_with_task}
use Rattle.grub_trace.specs.inside.Reading.{AllRead, Body, FileRead, Read, Faults, ◌>>=◌, file_from, of_file, opened, read_lines}

-- a head, which has no more tasks than may be, and no task below
pub record IsHead (h : Head) : Type 0 where
  pub third : 3 ≤ h.first
  pub few : h.first ≤ 259
  pub below : begins_with_task (parts_of h.below.now) ≡ false

-- what the lines below a head give, where these tasks are declared
abbrev pub lines_below : List Declaration → Head → Result Read (Kind × ℕ)
lines_below ds h = read_lines (opened h.version ds) h.first (parts_of h.below.now)

abbrev pub body_from : Head → Read → Body
body_from h r = record { queue = h.queue; first = h.first; happenings = r.happenings }

abbrev pub read_body : List Declaration → Head → Result Body (Kind × ℕ × ℕ)
read_body ds h = of_file h.file (lines_below ds h) >>= λ r. Ok (body_from h r)

-- the tasks up to a head's were taken, and the lines below it give the rest; or a task's line has this fault
abbrev pub GivesTasks : Result Head TraceFault → ℕ → Version → Capacity → List Declaration → List Declaration → List (List ℕ) → Type 0
GivesTasks (Ok h) file version queue old new parts =
    (h.version ≡ version) × (h.queue ≡ queue) × (h.first + length old ≡ 3 + length new) × (read_lines (opened version new) h.first (parts_of h.below.now) ≡ read_lines (opened version old) 3 parts)
GivesTasks (Err e) file version queue old new parts = Faults e (of_file file (read_lines (opened version old) 3 parts))

-- the lines below a head give what the file of this number gives; or the head has this fault
abbrev pub GivesHead : Result Head TraceFault → ℕ → List Declaration → Result FileRead (Kind × ℕ) → Type 0
GivesHead (Ok h) file ds total = total ≡ (lines_below ds h >>= λ r. Ok (file_from h.queue h.first r))
GivesHead (Err e) file ds total = Faults e (of_file file total)

-- what stands below heads, after what was read of the files before them
unfoldable pub bodies_from : List Body → List Head → Result (List Body) (Kind × ℕ × ℕ)
bodies_from done [] = Ok done
bodies_from done (h ∷ hs) = read_body [] h >>= λ b. bodies_from (done ++ b ∷ []) hs

-- the end of reading, after the bodies: all that was read, or the fault of a head
abbrev pub EndsAs : Option TraceFault → List Declaration → List Body → Result AllRead (Kind × ℕ × ℕ) → Type 0
EndsAs None ds bs r = r ≡ Ok (record { declared = ds; files = bs })
EndsAs (Some e) ds bs r = Faults e r

-- what stands below the heads, and then this end, is what all files give
pub record GiveTogether (ds : List Declaration) (hs : List Head) (fault : Option TraceFault) (total : Result AllRead (Kind × ℕ × ℕ)) : Type 0 where
  pub end : List Body → Result AllRead (Kind × ℕ × ℕ)
  pub end_is : (bs : List Body) → EndsAs fault ds bs (end bs)
  pub total_is : total ≡ (bodies_from [] hs >>= end)
