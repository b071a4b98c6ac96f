-- The reader as a function of the bytes, and what the code holds of a file between its steps.
use Rattle.std.specs.Prelude.{take, ◌≡◌, ℕ, min, List, [], ◌∷◌, Option, Some, None, true, Result, Ok, Err, if◌then◌else◌}
use Rattle.std.specs.Prelude.{◌++◌, map, string_bytes, false, ◌≤◌, nat_lt, Bool, not, ◌&&◌, ◌-◌, length, ◌==◌, ◌+◌, is_none}
use Rattle.std.specs.Borrow.{Bor}
use Rattle.std.specs.List.{list_all}
use Rattle.std.specs.Char.{is_ascii_digit}
use Rattle.std.specs.HashMap.{get_by_text}
use Rattle.grub_book.specs.declared.op.TheConstants.{RUN_MAX}
use Rattle.grub_book.specs.declared.server.TheConstants.{MOMENT_MAX}
use Rattle.grub_book.specs.declared.setup.TheConstants.{QUEUES_MAX, TASKS_MAX}
use Rattle.grub_book.specs.Bandwidth.{Capacity, reservation_fits}
use Rattle.grub_trace.specs.declared.version.Version.{Version}
use Rattle.grub_trace.specs.declared.fault.Kind.{Kind}
use Rattle.grub_trace.specs.declared.fault.Kind.TheVariants.{BadLine, BadNumber, OutOfRange, DuplicateTask, CutShort, MissingQueue, BadHeader, UnknownTask}
use Rattle.grub_trace.specs.declared.fault.TraceFault.{TraceFault}
use Rattle.grub_trace.specs.declared.fault.TraceFault.TheVariants as fault
use Rattle.grub_plan.specs.declared.line.Line as lines
use Rattle.grub_plan.specs.declared.line.Act.{Act}
use Rattle.grub_plan.specs.declared.line.Act.TheVariants as act
use Rattle.grub_trace.specs.declared.fault.Location.{Location}
use Rattle.grub_trace.specs.declared.tasks.Task.{Task}
use Rattle.grub_trace.specs.declared.tasks.Tasks.{Tasks}
use Rattle.grub_trace.specs.Forms.{version_of, Form, queue, task, at_moment, form_of, is_filled, is_number, reservation_value, capacity_value}
use Rattle.text_bytes.specs.Lines.{parts_of, words_of}
use Rattle.text_bytes.specs.Digits.{value}
use Rattle.grub_plan.specs.Plans.{Line, PlanView}
use Rattle.grub_trace.specs.Naming.{line_in, plan_with, task_of}
use Rattle.grub_trace.specs.Tree.{is_moment, is_span, Declaration, Happening, names_of}
use Rattle.grub_trace.specs.Faults.{queue_fault, form_fault}
use Rattle.grub_trace.specs.declared.form.Form as coded
use Rattle.grub_trace.specs.declared.form.Form.TheVariants as code
use Rattle.grub_trace.specs.declared.word_list.WordList.{WordList}

-- the words that were found
abbrev pub words_in : WordList → List (Bor (List ℕ))
words_in words = take words.count words.list

-- these are the words, and none of them is empty
abbrev pub AreFilled : WordList → List (List ℕ) → Type 0
AreFilled words ws = (map (λ w. w.now) (words_in words) ≡ ws) × (list_all is_filled ws ≡ true)

-- the same act, with its name and its numbers in another form
abbrev pub act_map : {N M V W : Type 0} → (N → M) → (V → W) → Act N V → Act M W
act_map f g (act.Join n) = act.Join (f n)
act_map f g (act.Wake n) = act.Wake (f n)
act_map f g (act.Block n) = act.Block (f n)
act_map f g (act.Leave n) = act.Leave (f n)
act_map f g (act.Exit n) = act.Exit (f n)
act_map f g (act.Run n d) = act.Run (f n) (g d)
act_map f g (act.Retune n q p) = act.Retune (f n) (g q) (g p)
act_map f g act.Read = act.Read

-- what a line says, with its numbers unread and read
abbrev pub raw_view : Act (Bor (List ℕ)) (Bor (List ℕ)) → Act (List ℕ) (List ℕ)
raw_view a = act_map (λ n. n.now) (λ w. w.now) a

abbrev pub line_view : lines.Line (Bor (List ℕ)) → Happening
line_view l = record { m = l.m; act = act_map (λ n. n.now) (λ v. v) l.act }

abbrev pub form_view : coded.Form → Form
form_view (code.Queue a b) = queue a.now b.now
form_view (code.Task n q p) = task n.now q.now p.now
form_view (code.At m a) = at_moment m.now (raw_view a)

-- the number that the word spells, or the greatest of 32 bits where it is greater
abbrev pub IsNumberOf : Option ℕ → List ℕ → Type 0
IsNumberOf None w = is_number w ≡ false
IsNumberOf (Some n) w = (is_number w ≡ true) × (n ≡ min (value w) 4294967295)

-- the same of digits, whatever the first
abbrev pub IsDigitsOf : Option ℕ → List ℕ → Type 0
IsDigitsOf None w = list_all is_ascii_digit w ≡ false
IsDigitsOf (Some n) w = (list_all is_ascii_digit w ≡ true) × (n ≡ min (value w) 4294967295)

-- ---- the lines below the second

-- what was read so far: this file's version, the tasks of all files, and what this one says that happens
pub record Read : Type 0 where
  pub version : Version
  pub declared : List Declaration
  pub happenings : List Happening

-- a file, before its third line
abbrev pub opened : Version → List Declaration → Read
opened version ds = record { version = version; declared = ds; happenings = [] }

abbrev pub declares : Declaration → Read → Read
declares d r = record { version = r.version; declared = r.declared ++ d ∷ []; happenings = r.happenings }

abbrev pub says : Happening → Read → Read
says h r = record { version = r.version; declared = r.declared; happenings = r.happenings ++ h ∷ [] }

-- what a form without a fault adds
abbrev pub adds : Form → Read → Read
adds (queue a b) r = r
adds (task n q p) r = declares (record { name = n; params = reservation_value q p }) r
adds (at_moment m a) r = says (record { m = value m; act = act_map (λ n. n) value a }) r

abbrev pub times_of : List Happening → List ℕ
times_of hs = map (λ h. h.m) hs

abbrev pub ok_unless : {X : Type 0} → Option Kind → X → Result X Kind
ok_unless None x = Ok x
ok_unless (Some k) x = Err k

abbrev pub take_form : Read → Form → Result Read Kind
take_form r f = ok_unless (form_fault r.version (names_of r.declared) (times_of r.happenings) f) (adds f r)

abbrev pub take_option : Read → Option Form → Result Read Kind
take_option r None = Err BadLine
take_option r (Some f) = take_form r f

abbrev pub take_line : Read → List ℕ → Result Read Kind
take_line r line = take_option r (form_of (words_of line))

abbrev pub at_line : {X : Type 0} → ℕ → Result X Kind → Result X (Kind × ℕ)
at_line n (Ok x) = Ok x
at_line n (Err k) = Err (k, n)

abbrev pub of_file : {X : Type 0} → ℕ → Result X (Kind × ℕ) → Result X (Kind × ℕ × ℕ)
of_file f (Ok x) = Ok x
of_file f (Err e) = Err (e.0, f, e.1)

-- the fault that a function answered is the one that reading gives, unless memory ran out
abbrev pub Faults : {X : Type 0} → TraceFault → Result X (Kind × ℕ × ℕ) → Type 0
Faults fault.NoMemory r = Unit {0}
Faults (fault.At k f n) r = r ≡ Err (k, f, n)

-- ---- what the code keeps

abbrev pub task_view : Task → Declaration
task_view t = record { name = string_bytes t.name; params = t.params }

abbrev pub declarations : Tasks → List Declaration
declarations t = map task_view t.list.items

-- the index finds each task by its name, and there are few enough
pub record IsIndexed (t : Tasks) : Type 0 where
  pub few : length (declarations t) ≤ TASKS_MAX
  pub found : (q : List ℕ) → get_by_text t.index q ≡ task_of (names_of (declarations t)) q

-- what is wrong with a task that is declared after these names
abbrev pub task_fault : List (List ℕ) → List ℕ → List ℕ → List ℕ → Option Kind
task_fault names n q p =
    if not (is_number q && is_number p) then Some BadNumber
    else (if not (nat_lt (length names) TASKS_MAX && reservation_fits (reservation_value q p)) then Some OutOfRange
    else (if not (is_none (task_of names n)) then Some DuplicateTask else None))

-- what became of the declarations, where a task line stands before the first moment; or its fault
abbrev pub Declares : {U : Type 0} → Result U TraceFault → Location → List Declaration → List Declaration → List ℕ → List ℕ → List ℕ → Type 0
Declares (Ok u) line old new n q p = (version : Version) → take_form (opened version old) (task n q p) ≡ Ok (opened version new)
Declares (Err e) line old new n q p = (version : Version) → Faults e (of_file line.file (at_line line.line (take_form (opened version old) (task n q p))))

abbrev pub moment_fault : List ℕ → Option Kind
moment_fault w = if not (is_number w) then Some BadNumber else (if is_moment (value w) then None else Some OutOfRange)

abbrev pub IsMomentOf : Result ℕ Kind → List ℕ → Type 0
IsMomentOf (Ok at) w = (is_number w ≡ true) × (value w ≡ at) × (at ≤ MOMENT_MAX)
IsMomentOf (Err k) w = moment_fault w ≡ Some k

-- what is wrong with a number that is to be this, and within that limit
abbrev pub two_fault : Bool → Bool → Option Kind
two_fault spelled within = if not spelled then Some BadNumber else (if within then None else Some OutOfRange)

-- the moment and the length of a run
abbrev pub IsRunOf : Result (ℕ × ℕ) Kind → List ℕ → List ℕ → Type 0
IsRunOf (Ok x) m d = (is_number m ≡ true) × (is_number d ≡ true) × (value m ≡ x.0) × (value d ≡ x.1) × (x.0 ≤ MOMENT_MAX) × (1 ≤ x.1) × (x.1 ≤ RUN_MAX)
IsRunOf (Err k) m d = two_fault (is_number m && is_number d) (is_moment (value m) && is_span (value d)) ≡ Some k

-- the moment and the new reservation of a retune
abbrev pub IsRetuneOf : Result (ℕ × ℕ × ℕ) Kind → List ℕ → List ℕ → List ℕ → Type 0
IsRetuneOf (Ok x) m q p = (is_number m ≡ true) × (is_number q ≡ true) × (is_number p ≡ true) × (value m ≡ x.0) × (value q ≡ x.1) × (value p ≡ x.2) × (x.0 ≤ MOMENT_MAX) × (reservation_fits (reservation_value q p) ≡ true)
IsRetuneOf (Err k) m q p = two_fault (is_number m && is_number q && is_number p) (is_moment (value m) && reservation_fits (reservation_value q p)) ≡ Some k

-- ---- a file

infixl 10 ◌>>=◌
abbrev pub ◌>>=◌ : {A B E : Type 0} → Result A E → (A → Result B E) → Result B E
(Ok x) >>= f = f x
(Err e) >>= f = Err e

-- the lines from number n on, after what was read so far
unfoldable pub read_lines : Read → ℕ → List (List ℕ) → Result Read (Kind × ℕ)
read_lines r n [] = Ok r
read_lines r n (line ∷ []) = if length line == 0 then Ok r else Err (CutShort, n)
read_lines r n (line ∷ next ∷ more) = at_line n (take_line r line) >>= λ s. read_lines s (n + 1) (next ∷ more)

abbrev pub queue_of : Option Form → Capacity
queue_of (Some (queue a b)) = capacity_value a b
queue_of form = record { most = 0; extra = 0 }

abbrev pub read_queue : List ℕ → Result Capacity Kind
read_queue line = ok_unless (queue_fault line) (queue_of (form_of (words_of line)))

-- a runqueue, what was read of the file, and the line of its first moment
pub record FileRead : Type 0 where
  pub queue : Capacity
  pub first : ℕ
  pub declared : List Declaration
  pub happenings : List Happening

abbrev pub file_from : Capacity → ℕ → Read → FileRead
file_from q first r = record { queue = q; first = first; declared = r.declared; happenings = r.happenings }

-- the second line, and all below it
unfoldable pub read_second : Version → List Declaration → List (List ℕ) → Result FileRead (Kind × ℕ)
read_second version ds [] = Err (MissingQueue, 2)
read_second version ds (line ∷ []) = Err ((if length line == 0 then MissingQueue else CutShort), 2)
read_second version ds (line ∷ next ∷ more) = do
  q ← at_line 2 (read_queue line)
  r ← read_lines (opened version ds) 3 (next ∷ more)
  Ok (file_from q (3 + (length r.declared - length ds)) r)

-- what follows the first line, as the version that it names
abbrev pub read_as : Option Version → List Declaration → List (List ℕ) → Result FileRead (Kind × ℕ)
read_as None ds parts = Err (BadHeader, 1)
read_as (Some version) ds parts = read_second version ds parts

-- a file, after the declarations of the files before it
unfoldable pub read_first : List Declaration → List (List ℕ) → Result FileRead (Kind × ℕ)
read_first ds [] = Err (BadHeader, 1)
read_first ds (line ∷ []) = Err ((if length line == 0 then BadHeader else CutShort), 1)
read_first ds (line ∷ next ∷ more) = read_as (version_of line) ds (next ∷ more)

unfoldable pub read_file : List Declaration → List ℕ → Result FileRead (Kind × ℕ)
read_file ds bytes = read_first ds (parts_of bytes)

abbrev pub GivesQueue : Result Capacity Kind → List ℕ → Type 0
GivesQueue r line = r ≡ read_queue line

-- ---- all files

-- what was read of a file, without its declarations
pub record Body : Type 0 where
  pub queue : Capacity
  pub first : ℕ
  pub happenings : List Happening

abbrev pub body_of : FileRead → Body
body_of r = record { queue = r.queue; first = r.first; happenings = r.happenings }

pub record AllRead : Type 0 where
  pub declared : List Declaration
  pub files : List Body

abbrev pub with_file : AllRead → FileRead → AllRead
with_file all r = record { declared = r.declared; files = all.files ++ body_of r ∷ [] }

-- the files from number f on, after what was read of those before them
unfoldable pub read_from : AllRead → ℕ → List (List ℕ) → Result AllRead (Kind × ℕ × ℕ)
read_from all f [] = Ok all
read_from all f (bytes ∷ more) = of_file f (read_file all.declared bytes) >>= λ r. read_from (with_file all r) (f + 1) more

abbrev pub AnswersAs : {U X : Type 0} → Result U TraceFault → (U → X) → Result X (Kind × ℕ × ℕ) → Type 0
AnswersAs (Ok u) view r = r ≡ Ok (view u)
AnswersAs (Err e) view r = Faults e r

-- a fault of the first two lines of the first file is answered, since nothing grows before it
abbrev pub AnswersOpening : {U X : Type 0} → Result U TraceFault → Result X (Kind × ℕ × ℕ) → Type 0
AnswersOpening r total = (k : Kind) (n : ℕ) → n ≤ 2 → total ≡ Err (k, 0, n) → r ≡ Err (fault.At k 0 n)

-- ---- names to numbers

-- the lines of a script from line n on, after those before them; an error is the line whose name is unknown
abbrev pub option_or_err : {X : Type 0} → ℕ → Option X → Result X ℕ
option_or_err n None = Err n
option_or_err n (Some x) = Ok x

unfoldable pub script_from : List (List ℕ) → List Line → ℕ → List Happening → Result (List Line) ℕ
script_from names done n [] = Ok done
script_from names done n (m ∷ more) = option_or_err n (line_in names m) >>= λ l. script_from names (done ++ l ∷ []) (n + 1) more

abbrev pub unknown_in : {X : Type 0} → ℕ → Result X ℕ → Result X (Kind × ℕ × ℕ)
unknown_in f (Ok x) = Ok x
unknown_in f (Err n) = Err (UnknownTask, f, n)

unfoldable pub scripts_from : List (List ℕ) → List (List Line) → ℕ → List Body → Result (List (List Line)) (Kind × ℕ × ℕ)
scripts_from names done f [] = Ok done
scripts_from names done f (b ∷ more) = unknown_in f (script_from names [] b.first b.happenings) >>= λ s. scripts_from names (done ++ s ∷ []) (f + 1) more

abbrev pub plan_of_read : AllRead → Result PlanView (Kind × ℕ × ℕ)
plan_of_read all = do
  scripts ← scripts_from (names_of all.declared) [] 0 all.files
  Ok (plan_with (map (λ b. b.queue) all.files) all.declared scripts)

-- the plan, or the first fault
unfoldable pub plan_from : List (List ℕ) → Result PlanView (Kind × ℕ × ℕ)
plan_from files = if nat_lt QUEUES_MAX (length files) then Err (OutOfRange, QUEUES_MAX, 1) else (if length files == 0 then Err (MissingQueue, 0, 1)
    else (read_from (record { declared = []; files = [] }) 0 files >>= λ all. plan_of_read all))
