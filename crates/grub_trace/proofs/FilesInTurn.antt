-- Files, and then their scripts, one after the other: what the loops over them come to, up to the plan of what was read.
use Rattle.std.proofs.Common.{◌≡◌, ℕ, ◌+◌, ◌≤◌, ◌<◌, List, [], ◌∷◌, ◌++◌, length, get_or, drop, map, Result, Ok, Err, Some, None, refl, sym, ap, ◌∙◌, arith, subst}
use Rattle.std.specs.Global.{Vec}
use Rattle.std.proofs.lemmas.List.{drop_all, length_push, map_push, drop_more}
use Rattle.grub_trace.specs.declared.fault.Kind.TheVariants.{UnknownTask}
use Rattle.grub_trace.specs.declared.raw.RawFile.{RawFile}
use Rattle.grub_book.specs.Bandwidth.{Capacity, Reservation}
use Rattle.std.specs.Prelude.{string_bytes}
use Rattle.grub_trace.specs.declared.tasks.Task.{Task}
use Rattle.grub_trace.specs.declared.tasks.Tasks.{Tasks}
use Rattle.grub_trace.specs.declared.fault.Kind.{Kind}
use Rattle.grub_trace.specs.declared.fault.TraceFault.{TraceFault}
use Rattle.grub_trace.specs.declared.fault.TraceFault.TheVariants as fault
use Rattle.grub_plan.specs.Plans.{Line}
use Rattle.grub_trace.specs.Tree.{names_of}
use Rattle.grub_trace.specs.inside.Tree.{params_of}
use Rattle.grub_trace.proofs.Elsewhere.{not_zero}
use Rattle.std.proofs.lemmas.Bool.{le-ltb}
use Rattle.grub_plan.specs.Contents.{contents}
use Rattle.grub_trace.specs.inside.Reading.{Faults, AllRead, Body, of_file, read_file, read_from, script_from, scripts_from, unknown_in, plan_from, declarations, task_view, with_file, ◌>>=◌}
use Rattle.grub_trace.specs.inside.Lines.{AreBodies, IsBody, script_in}
use Rattle.grub_trace.specs.Naming.{plan_with}

pub drop_item : {X : Type 0} (xs : List X) (i : ℕ) (x : X) → i < length xs → x ≡ get_or xs i x → drop i xs ≡ x ∷ drop (i + 1) xs
drop_item xs i x lt is = drop_more xs i x lt ∙ ap (λ y. y ∷ drop (i + 1) xs) (sym is)

-- ---- all scripts

-- the bodies of the files that are left, after the scripts of those before them
pub record ScriptsLeft (t : Tasks) (done : List (List Line)) (f : ℕ) (left : List RawFile) (total : Result (List (List Line)) (Kind × ℕ × ℕ)) : Type 0 where
  pub bodies : List Body
  pub are : AreBodies t bodies left
  pub so_far : scripts_from (names_of (declarations t)) done f bodies ≡ total

-- so many files have their scripts, whatever the bodies are
pub record ScriptsSoFar (scripts : List (Vec Line)) (yielded files : List RawFile) : Type 0 where
  pub so_far : (t : Tasks) (bs : List Body) → AreBodies t bs files → ScriptsLeft t (map (λ s. s.items) scripts) (length yielded) (drop (length yielded) files) (scripts_from (names_of (declarations t)) [] 0 bs)
  pub count : length scripts ≡ length yielded

scripts_one : (t : Tasks) (done : List (List Line)) (f : ℕ) (file : RawFile) (left : List RawFile) (total : Result (List (List Line)) (Kind × ℕ × ℕ)) → file.script.unknown ≡ None → ScriptsLeft t done f (file ∷ left) total → ScriptsLeft t (done ++ file.script.lines.items ∷ []) (f + 1) left total
unfolding scripts_from
scripts_one t done f file left total known on = go on.bodies on.are on.so_far
  where
    go : (bs : List Body) → AreBodies t bs (file ∷ left) → scripts_from (names_of (declarations t)) done f bs ≡ total → ScriptsLeft t (done ++ file.script.lines.items ∷ []) (f + 1) left total
    go [] are is = absurd are
    go (b ∷ bs) are is =
        let script : script_from (names_of (declarations t)) [] b.first b.happenings ≡ Ok file.script.lines.items = are.0.script ∙ ap (script_in file.script.lines.items) known in
        record {
          bodies = bs;
          are = are.1;
          so_far = sym (ap (λ r. unknown_in f r >>= λ s. scripts_from (names_of (declarations t)) (done ++ s ∷ []) (f + 1) bs) script) ∙ is;
        }

pub scripts_next : (scripts : List (Vec Line)) (yielded files : List RawFile) (file : RawFile) → length yielded < length files → file ≡ get_or files (length yielded) file → file.script.unknown ≡ None
    → ScriptsSoFar scripts yielded files → ScriptsSoFar (scripts ++ file.script.lines ∷ []) (yielded ++ file ∷ []) files
scripts_next scripts yielded files file lt item known on =
    let n = length yielded in
    let more = length_push yielded file in
    record {
      so_far = λ t bs are. subst (λ k. ScriptsLeft t (map (λ s. s.items) (scripts ++ file.script.lines ∷ [])) k (drop k files) (scripts_from (names_of (declarations t)) [] 0 bs)) (sym more)
          (subst (λ done. ScriptsLeft t done (n + 1) (drop (n + 1) files) (scripts_from (names_of (declarations t)) [] 0 bs)) (sym (map_push (λ s. s.items) scripts file.script.lines))
          (scripts_one t (map (λ s. s.items) scripts) n file (drop (n + 1) files) (scripts_from (names_of (declarations t)) [] 0 bs) known
          (subst (λ left. ScriptsLeft t (map (λ s. s.items) scripts) n left (scripts_from (names_of (declarations t)) [] 0 bs)) (drop_item files n file lt item) (on.so_far t bs are))));
      count = omega (arith, length_push scripts file.script.lines, more, on.count);
    }

pub scripts_stop : (scripts : List (Vec Line)) (yielded files : List RawFile) (file : RawFile) (n line : ℕ) → length yielded < length files → file ≡ get_or files (length yielded) file → file.script.unknown ≡ Some line → n ≡ length scripts
    → ScriptsSoFar scripts yielded files → (t : Tasks) (bs : List Body) → AreBodies t bs files → scripts_from (names_of (declarations t)) [] 0 bs ≡ Err (UnknownTask, n, line)
unfolding scripts_from
scripts_stop scripts yielded files file n line lt item unknown place on t bs are =
    let left = subst (λ left. ScriptsLeft t (map (λ s. s.items) scripts) (length yielded) left (scripts_from (names_of (declarations t)) [] 0 bs)) (drop_item files (length yielded) file lt item) (on.so_far t bs are) in
    go left.bodies left.are left.so_far
  where
    go : (cs : List Body) → AreBodies t cs (file ∷ drop (length yielded + 1) files) → scripts_from (names_of (declarations t)) (map (λ s. s.items) scripts) (length yielded) cs ≡ scripts_from (names_of (declarations t)) [] 0 bs → scripts_from (names_of (declarations t)) [] 0 bs ≡ Err (UnknownTask, n, line)
    go [] are is = absurd are
    go (c ∷ cs) are is =
        let script : script_from (names_of (declarations t)) [] c.first c.happenings ≡ Err line = are.0.script ∙ ap (script_in file.script.lines.items) unknown in
        let at : length yielded ≡ n = omega (arith, place, on.count) in
        sym is ∙ ap (λ r. unknown_in (length yielded) r >>= λ s. scripts_from (names_of (declarations t)) (map (λ s. s.items) scripts ++ s ∷ []) (length yielded + 1) cs) script ∙ ap (λ k. Err (UnknownTask, k, line)) at

pub scripts_done : (scripts : List (Vec Line)) (yielded files : List RawFile) → length files ≤ length yielded → ScriptsSoFar scripts yielded files → (t : Tasks) (bs : List Body) → AreBodies t bs files → scripts_from (names_of (declarations t)) [] 0 bs ≡ Ok (map (λ s. s.items) scripts)
unfolding scripts_from
scripts_done scripts yielded files le on t bs are =
    let left = subst (λ left. ScriptsLeft t (map (λ s. s.items) scripts) (length yielded) left (scripts_from (names_of (declarations t)) [] 0 bs)) (drop_all (length yielded) files le) (on.so_far t bs are) in
    go left.bodies left.are left.so_far
  where
    go : (cs : List Body) → AreBodies t cs [] → scripts_from (names_of (declarations t)) (map (λ s. s.items) scripts) (length yielded) cs ≡ scripts_from (names_of (declarations t)) [] 0 bs → scripts_from (names_of (declarations t)) [] 0 bs ≡ Ok (map (λ s. s.items) scripts)
    go [] are is = sym is
    go (c ∷ cs) are is = absurd are

-- ---- all files

-- the fault of a step is that of the steps from it on
pub faults_then : {X Y : Type 0} (e : TraceFault) (r : Result X (Kind × ℕ × ℕ)) (k : X → Result Y (Kind × ℕ × ℕ)) → Faults e r → Faults e (r >>= k)
faults_then fault.NoMemory r k h = tt
faults_then (fault.At j f n) r k h = ap (λ x. x >>= k) h

pub files_stop : (e : TraceFault) (all : AllRead) (f : ℕ) (files : List (Vec ℕ)) (bytes : Vec ℕ) (total : Result AllRead (Kind × ℕ × ℕ)) → f < length files → bytes ≡ get_or files f bytes → Faults e (of_file f (read_file all.declared bytes.items))
    → read_from all f (contents (drop f files)) ≡ total → Faults e total
unfolding read_from
files_stop e all f files bytes total lt item is so_far =
    subst (Faults e) (sym (ap (λ (vs : List (Vec ℕ)). read_from all f (contents vs)) (drop_item files f bytes lt item)) ∙ so_far)
    (faults_then e (of_file f (read_file all.declared bytes.items)) (λ r. read_from (with_file all r) (f + 1) (contents (drop (f + 1) files))) is)

pub files_done : (all : AllRead) (f : ℕ) (files : List (Vec ℕ)) (total : Result AllRead (Kind × ℕ × ℕ)) → length files ≤ f → read_from all f (contents (drop f files)) ≡ total → total ≡ Ok all
unfolding read_from
files_done all f files total le so_far = sym so_far ∙ rw (drop_all f files le) refl

pub bodies_and : (t : Tasks) (bs : List Body) (fs : List RawFile) (b : Body) (f : RawFile) → AreBodies t bs fs → IsBody t b f → AreBodies t (bs ++ b ∷ []) (fs ++ f ∷ [])
bodies_and t [] [] b f are is = (is, tt)
bodies_and t [] (g ∷ fs) b f are is = absurd are
bodies_and t (c ∷ bs) [] b f are is = absurd are
bodies_and t (c ∷ bs) (g ∷ fs) b f are is = (are.0, bodies_and t bs fs b f are.1 is)

-- ---- the plan

pub plan_is : (files : List (List ℕ)) (all : AllRead) (ss : List (List Line)) (qs : List Capacity) → length files ≤ 64 → 0 < length files → read_from (record { declared = []; files = [] }) 0 files ≡ Ok all
    → scripts_from (names_of all.declared) [] 0 all.files ≡ Ok ss → qs ≡ map (λ b. b.queue) all.files → plan_from files ≡ Ok (plan_with qs all.declared ss)
unfolding plan_from
plan_is files all ss qs few some read scripts queues = rw (le-ltb 64 (length files) few, not_zero (length files) some, read, scripts, queues) refl

queues_are : (t : Tasks) (bs : List Body) (fs : List RawFile) → AreBodies t bs fs → map (λ (f : RawFile). f.queue) fs ≡ map (λ (b : Body). b.queue) bs
queues_are t [] [] are = refl
queues_are t [] (f ∷ fs) are = absurd are
queues_are t (b ∷ bs) [] are = absurd are
queues_are t (b ∷ bs) (f ∷ fs) are = ap (λ (q : Capacity). q ∷ map (λ (f : RawFile). f.queue) fs) (sym are.0.queue) ∙ ap (λ (qs : List Capacity). b.queue ∷ qs) (queues_are t bs fs are.1)

-- the same from what the code keeps
pub plan_made : (files : List (List ℕ)) (tasks : Tasks) (bs : List Body) (fs : List RawFile) (ss : List (List Line)) (qs : List Capacity) (ps : List Reservation) (ns : List (List ℕ)) → length files ≤ 64 → 0 < length files
    → AreBodies tasks bs fs → read_from (record { declared = []; files = [] }) 0 files ≡ Ok (record { declared = declarations tasks; files = bs }) → scripts_from (names_of (declarations tasks)) [] 0 bs ≡ Ok ss → qs ≡ map (λ f. f.queue) fs
    → ps ≡ map (λ (t : Task). t.params) tasks.list.items → ns ≡ map (λ (t : Task). string_bytes t.name) tasks.list.items
    → plan_from files ≡ Ok (record { setup = record { queues = qs; tasks = ps }; names = ns; scripts = ss })
plan_made files tasks bs fs ss qs ps ns few some are read scripts queues params names =
    plan_is files (record { declared = declarations tasks; files = bs }) ss qs few some read scripts (queues ∙ queues_are tasks bs fs are)
    ∙ ap (λ (xs : List Reservation). Ok (record { setup = record { queues = qs; tasks = xs }; names = names_of (declarations tasks); scripts = ss })) (params_are tasks.list.items ∙ sym params)
    ∙ ap (λ (xs : List (List ℕ)). Ok (record { setup = record { queues = qs; tasks = ps }; names = xs; scripts = ss })) (names_are tasks.list.items ∙ sym names)
  where
    params_are : (ts : List Task) → params_of (map task_view ts) ≡ map (λ (t : Task). t.params) ts
    params_are [] = refl
    params_are (t ∷ ts) = ap (λ (xs : List Reservation). t.params ∷ xs) (params_are ts)

    names_are : (ts : List Task) → names_of (map task_view ts) ≡ map (λ (t : Task). string_bytes t.name) ts
    names_are [] = refl
    names_are (t ∷ ts) = ap (λ (xs : List (List ℕ)). string_bytes t.name ∷ xs) (names_are ts)
