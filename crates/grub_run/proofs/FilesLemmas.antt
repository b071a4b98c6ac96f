-- Files of a list of names, read one after another.
use Rattle.std.proofs.Common.{◌⊎◌, ⊎_elim, refl, ◌≤◌, ◌≡◌, ◌∙◌, ap, subst, sym, ℕ, ◌+◌, ◌<◌, List, [], ◌∷◌, ◌++◌, get_or, length, take, Some, option_map, Result, Ok, Err}
use Rattle.std.proofs.lemmas.List.{length-map, map-append, take-map}
use Rattle.std.proofs.lemmas.List.Elements.{AllZip-push, length_all_zip}
use Rattle.std.proofs.lemmas.Option.{slice_get-map, slice_get-get_or}
use Rattle.std.proofs.Math.Numerals.{suc-eq-add-one}
use Rattle.std.proofs.Math.Seq.{take-suc}
use Rattle.std.specs.Borrow.{Bor}
use Rattle.std.specs.Global.{Vec}
use Rattle.std.specs.List.{AllZip, slice_get}
use Rattle.std.specs.Result.{IfErr, IsErrAnd}
use Rattle.grub_plan.specs.Contents.{contents}
use Rattle.text_bytes.specs.declared.files.Source.{Source}
use Rattle.text_bytes.specs.declared.files.TheConstants.{FILE_BYTES_MAX}
use Rattle.text_bytes.specs.Source.{Holds, IsLonger, IsOpened, IsUnreadable, Opener, Reader}
use Rattle.grub_book.specs.declared.setup.TheConstants.{QUEUES_MAX}
use Rattle.grub_trace.specs.FirstFault.{no_file, too_many}
use Rattle.grub_trace.specs.declared.fault.Kind.TheVariants.{MissingQueue, OutOfRange}
use Rattle.grub_trace.specs.declared.fault.TraceFault.{TraceFault}
use Rattle.grub_trace.specs.declared.fault.TraceFault.TheVariants as trace
use Rattle.grub_run.specs.declared.grub_fault.GrubFault.{GrubFault}
use Rattle.grub_run.specs.declared.grub_fault.GrubFault.TheVariants as run
use Rattle.grub_run.specs.declared.program_fault.ProgramFault.{ProgramFault}
use Rattle.grub_run.specs.declared.program_fault.ProgramFault.TheVariants as faults
use Rattle.grub_run.specs.Faults.{First, HoldAll, Tells, names_of}
use Rattle.grub_run.specs.Written.{IsFaultOf}
use Rattle.grub_run.specs.inside.Telling.{IsOfReading, IsPlaced, TellsOf}

-- what is so of a fault is so of what hands it on
pub handed_on : {T E : Type 0} {fault : E} (P : E → Type 0) (r : Result T E) → IsErrAnd r (λ y. y ≡ fault) → P fault → IfErr r P
handed_on P (Ok x) is so = absurd is
handed_on P (Err y) is so = subst P (sym is) so

-- the name at this place
pub name_at : (paths : List (Bor (List ℕ))) (i : ℕ) (d : Bor (List ℕ)) → i < length paths → slice_get (names_of paths) i ≡ Some (get_or paths i d).now
name_at paths i d below = slice_get-map (λ path. path.now) paths i ∙ ap (option_map (λ path. path.now)) (slice_get-get_or paths i d below)

-- the names up to and with that one
pub names_next : (paths : List (Bor (List ℕ))) (i : ℕ) (d : Bor (List ℕ)) → i < length paths → names_of (take (i + 1) paths) ≡ names_of (take i paths) ++ (get_or paths i d).now ∷ []
names_next paths i d below = ap (λ n. names_of (take n paths)) (sym (suc-eq-add-one i)) ∙ (ap names_of (take-suc paths i d below) ∙ map-append (λ path. path.now) (take i paths) (get_or paths i d ∷ []))

-- one file more
pub held_more : (R : List ℕ → List ℕ → Type 0) (paths : List (Bor (List ℕ))) (i : ℕ) (d : Bor (List ℕ)) (files : List (List ℕ)) (bytes : List ℕ) → i < length paths → AllZip R (names_of (take i paths)) files → R (get_or paths i d).now bytes → AllZip R (names_of (take (i + 1) paths)) (files ++ bytes ∷ [])
held_more R paths i d files bytes below hold is = subst (λ ns. AllZip R ns (files ++ bytes ∷ [])) (sym (names_next paths i d below)) (AllZip-push R (names_of (take i paths)) files (get_or paths i d).now bytes hold is)

-- and one that is kept
pub held_next : (R : List ℕ → List ℕ → Type 0) (paths : List (Bor (List ℕ))) (i : ℕ) (d : Bor (List ℕ)) (files : List (Vec ℕ)) (v : Vec ℕ) (all : List (Vec ℕ)) → i < length paths → AllZip R (names_of (take i paths)) (contents files) → R (get_or paths i d).now v.items → all ≡ files ++ v ∷ [] → AllZip R (names_of (take (i + 1) paths)) (contents all)
held_next R paths i d files v all below hold is are = subst (AllZip R (names_of (take (i + 1) paths))) (sym (ap contents are ∙ map-append (λ w. w.items) files (v ∷ []))) (held_more R paths i d (contents files) v.items below hold is)

-- the first file of which this is said
pub first_at : {O N D : Type 0} (o : Opener O D) (g : Reader N D) (source : Source O N) (P : List ℕ → Type 0) (paths : List (Bor (List ℕ))) (i : ℕ) (d : Bor (List ℕ)) (files : List (List ℕ)) → i < length paths → HoldAll o g source (names_of (take i paths)) files → P (get_or paths i d).now → First o g source P (names_of paths) (get_or paths i d).now
first_at o g source P paths i d files below hold is = record { at = i; is = name_at paths i d below; before = files; hold = subst (λ ns. HoldAll o g source ns files) (sym (take-map (λ path. path.now) i paths)) hold; says = is }

-- the fault of the first file that was not read whole
pub first_told : {O N D : Type 0} (o : Opener O D) (g : Reader N D) (source : Source O N) (paths : List (Bor (List ℕ))) (i : ℕ) (d : Bor (List ℕ)) (files : List (List ℕ)) (fault : ProgramFault) → i < length paths → HoldAll o g source (names_of (take i paths)) files → TellsOf o g source (get_or paths i d).now fault → Tells o g source (names_of paths) fault
first_told o g source paths i d files (faults.TooLong path) below hold (same, is) = subst (First o g source (IsLonger o g source) (names_of paths)) (sym same) (first_at o g source (IsLonger o g source) paths i d files below hold is)
first_told o g source paths i d files (faults.Unreadable path) below hold (same, is) = subst (First o g source (IsUnreadable o g source) (names_of paths)) (sym same) (first_at o g source (IsUnreadable o g source) paths i d files below hold is)
first_told o g source paths i d files (faults.Line path line fault) below hold is = absurd is
first_told o g source paths i d files (faults.Run fault) below hold is = absurd is
first_told o g source paths i d files faults.View below hold is = absurd is
first_told o g source paths i d files (faults.EmptySpan first end) below hold is = absurd is
first_told o g source paths i d files faults.NoMemory below hold is = ((get_or paths i d).now, first_at o g source (IsOpened o g source) paths i d files below hold is)

-- such a fault is one of reading
pub of_reading : {O N D : Type 0} (o : Opener O D) (g : Reader N D) (source : Source O N) (name : List ℕ) (fault : ProgramFault) → TellsOf o g source name fault → IsOfReading fault
of_reading o g source name (faults.TooLong path) is = tt
of_reading o g source name (faults.Unreadable path) is = tt
of_reading o g source name (faults.Line path line fault) is = absurd is
of_reading o g source name (faults.Run fault) is = absurd is
of_reading o g source name faults.View is = absurd is
of_reading o g source name (faults.EmptySpan first end) is = absurd is
of_reading o g source name faults.NoMemory is = tt

-- a file that may be read whole may be opened, and read so far
pub opened_whole : {O N D : Type 0} (o : Opener O D) (g : Reader N D) (source : Source O N) (name bytes : List ℕ) → length bytes ≤ FILE_BYTES_MAX → Holds o g source name bytes → IsOpened o g source name
opened_whole o g source name bytes few holds = let (after, (last, reads, end)) = holds.is in record { file = holds.file; opened = holds.opened; is = (last, (bytes, reads, few)) }

-- a number of files that no run can have, told of files that may be read whole
pub count_told : {O N D : Type 0} (o : Opener O D) (g : Reader N D) (source : Source O N) (paths : List (Bor (List ℕ))) (files : List (List ℕ)) (fault : TraceFault) (r : ProgramFault)
    → (QUEUES_MAX < length paths → fault ≡ trace.At OutOfRange QUEUES_MAX 1) → (length paths ≡ 0 → fault ≡ trace.At MissingQueue 0 1) → QUEUES_MAX < length paths ⊎ length paths ≡ 0
    → HoldAll o g source (names_of paths) files → IsPlaced (names_of paths) (run.Trace fault) r → Tells o g source (names_of paths) r
count_told o g source paths files fault r many nothing exact hold placed = ⊎_elim
    (λ h. let (path, is, named) = subst (λ f. IsPlaced (names_of paths) (run.Trace f) r) (many h) placed in
    let all : QUEUES_MAX < length files = rw (← length_all_zip (Holds o g source) (names_of paths) files hold, length-map) h in
    subst (Tells o g source (names_of paths)) (sym is) (record { files = files; hold = hold; says = record { kind = OutOfRange; file = QUEUES_MAX; is = too_many all; told = refl; named = named } }))
    (λ h. let (path, is, named) = subst (λ f. IsPlaced (names_of paths) (run.Trace f) r) (nothing h) placed in
    let all : length files ≡ 0 = rw (← length_all_zip (Holds o g source) (names_of paths) files hold, length-map) h in
    subst (Tells o g source (names_of paths)) (sym is) (record { files = files; hold = hold; says = record { kind = MissingQueue; file = 0; is = no_file all; told = refl; named = named } }))
    exact

-- the fault of a run, told with the name of its file
pub fault_told : {O N D : Type 0} (o : Opener O D) (g : Reader N D) (source : Source O N) (names files : List (List ℕ)) (fault : GrubFault) (r : ProgramFault) → HoldAll o g source names files → IsFaultOf files fault → IsPlaced names fault r → Tells o g source names r
fault_told o g source names files (run.Trace (trace.At k f n)) r hold is (path, same, named) = subst (Tells o g source names) (sym same) (record { files = files; hold = hold; says = record { kind = k; file = f; is = is; told = refl; named = named } })
fault_told o g source names files (run.Trace trace.NoMemory) r hold is same = subst (Tells o g source names) (sym same) refl
fault_told o g source names files (run.Run fault) r hold is same = subst (Tells o g source names) (sym same) tt
fault_told o g source names files (run.Text fault) r hold is same = subst (Tells o g source names) (sym same) tt
fault_told o g source names files run.WriteFault r hold is same = subst (Tells o g source names) (sym same) tt
