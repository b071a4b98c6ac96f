-- Texts of trees are read as the plan of these trees: the `only` of IsPlanOrFault.
use Rattle.std.proofs.Common.{◌≡◌, ℕ, ◌+◌, false, eqb, List, [], ◌∷◌, ◌++◌, length, map, Option, Some, None, Result, Ok, refl, ap, ◌∙◌, sym, arith, rules, subst, append_assoc}
use Rattle.std.specs.Prelude.{IsSome}
use Rattle.std.specs.List.{join_with_byte, flat_map, filter_map, cons_option, AllByRecursion}
use Rattle.std.proofs.lemmas.List.{append-nil, length-append, map-append, map_push}
use Rattle.std.proofs.lemmas.List.Splits.{slice_split_at}
use Rattle.std.proofs.lemmas.List.Elements.{All-from_recursion}
use Rattle.std.proofs.lemmas.Bool.{le-ltb}
use Rattle.grub_book.specs.Bandwidth.{Capacity}
use Rattle.grub_trace.specs.declared.version.Version.{Version}
use Rattle.grub_trace.specs.declared.version.Version.TheVariants.{One, Two}
use Rattle.grub_trace.specs.declared.fault.Kind.{Kind}
use Rattle.grub_plan.specs.Plans.{Line}
use Rattle.grub_trace.specs.Tree.{Declaration, Happening, Tree, text, line, header, queue_words, declaration_words, happening_words, names_of}
use Rattle.grub_trace.specs.Faults.{last_of}
use Rattle.text_bytes.specs.Lines.{parts_of}
use Rattle.grub_trace.specs.Naming.{line_in, script_of, all_tasks, plan_of, plan_with}
use Rattle.grub_trace.specs.Meaning.{GoOn, AreKnown, Reads, AreDeclared, IsTree, AreTrees}
use Rattle.grub_trace.specs.inside.Tree.{declaration_line, happening_line}
use Rattle.grub_trace.specs.inside.Reading.{Read, FileRead, AllRead, Body, with_file, of_file, read_lines, read_file, opened, read_from, take_line, at_line, ◌>>=◌, times_of, script_from, scripts_from, option_or_err, unknown_in, plan_from, declares, says}
use Rattle.grub_trace.proofs.Elsewhere.{not_zero}
use Rattle.grub_trace.proofs.LineLemmas.{lines_step, first_known, second_view}
use Rattle.grub_trace.proofs.FormLemmas.{version_again}
use Rattle.grub_trace.proofs.FileLaws.{small_queue}
use Rattle.grub_trace.proofs.LinesInTurn.{last_push}
use Rattle.grub_trace.proofs.PlanLaws.{body_of_tree, queues_are}
use Rattle.grub_trace.proofs.Printed.{IsOneLine, declaration_again, happening_again, queue_again, declaration_one_line, happening_one_line, queue_one_line}

pub header_one_line : (v : Version) → IsOneLine (header v)
header_one_line One = search rules
header_one_line Two = search rules

pub parts_again : (l rest : List ℕ) → IsOneLine l → parts_of (l ++ 10 ∷ rest) ≡ l ∷ parts_of rest
parts_again l rest h = slice_split_at (λ b. eqb b 10) l 10 rest (All-from_recursion (λ b. eqb b 10 ≡ false) l h) refl

-- a line that is taken, at the front
step : (r s : Read) (n : ℕ) (l rest : List ℕ) → IsOneLine l → take_line r l ≡ Ok s → read_lines r n (parts_of ((l ++ 10 ∷ []) ++ rest)) ≡ read_lines s (n + 1) (parts_of rest)
step r s n l rest one taken =
    ap (λ (bytes : List ℕ). read_lines r n (parts_of bytes)) (append_assoc l (10 ∷ []) rest)
    ∙ ap (read_lines r n) (parts_again l rest one) ∙ lines_step r n l rest
    ∙ ap (λ (x : Result Read Kind). at_line n x >>= λ t. read_lines t (n + 1) (parts_of rest)) taken

pub declared_run : (ds : List Declaration) (r : Read) (n : ℕ) (rest : List ℕ) → AreDeclared (names_of r.declared) ds → length r.happenings ≡ 0
    → read_lines r n (parts_of (flat_map (λ d. line (declaration_words d)) ds ++ rest)) ≡ read_lines (record { version = r.version; declared = r.declared ++ ds; happenings = r.happenings }) (n + length ds) (parts_of rest)
declared_run [] r n rest are first = ap (λ (ds : List Declaration). read_lines (record { version = r.version; declared = ds; happenings = r.happenings }) n (parts_of rest)) (sym (append-nil r.declared)) ∙ ap (λ (k : ℕ). read_lines (record { version = r.version; declared = r.declared ++ []; happenings = r.happenings }) k (parts_of rest)) (omega arith)
declared_run (d ∷ ds) r n rest are first =
    let others = flat_map (λ d. line (declaration_words d)) ds in
    let next : AreDeclared (names_of (r.declared ++ d ∷ [])) ds = subst (λ (ns : List (List ℕ)). AreDeclared ns ds) (sym (map_push (λ (d : Declaration). d.name) r.declared d)) are.1 in
    ap (λ (bytes : List ℕ). read_lines r n (parts_of bytes)) (append_assoc (line (declaration_words d)) others rest)
    ∙ step r (declares d r) n (declaration_line d) (others ++ rest) (declaration_one_line (names_of r.declared) d are.0) (declaration_again r d are.0 first)
    ∙ declared_run ds (declares d r) (n + 1) rest next first
    ∙ ap (λ (xs : List Declaration). read_lines (record { version = r.version; declared = xs; happenings = r.happenings }) (n + 1 + length ds) (parts_of rest)) (append_assoc r.declared (d ∷ []) ds)
    ∙ ap (λ (k : ℕ). read_lines (record { version = r.version; declared = r.declared ++ d ∷ ds; happenings = r.happenings }) k (parts_of rest)) (omega arith)

pub said_run : (ms : List Happening) (r : Read) (n : ℕ) (rest : List ℕ) → GoOn r.version (last_of (times_of r.happenings)) ms
    → read_lines r n (parts_of (flat_map (λ m. line (happening_words m)) ms ++ rest)) ≡ read_lines (record { version = r.version; declared = r.declared; happenings = r.happenings ++ ms }) (n + length ms) (parts_of rest)
said_run [] r n rest on = ap (λ (ms : List Happening). read_lines (record { version = r.version; declared = r.declared; happenings = ms }) n (parts_of rest)) (sym (append-nil r.happenings)) ∙ ap (λ (k : ℕ). read_lines (record { version = r.version; declared = r.declared; happenings = r.happenings ++ [] }) k (parts_of rest)) (omega arith)
said_run (m ∷ ms) r n rest on =
    let others = flat_map (λ m. line (happening_words m)) ms in
    let next : GoOn r.version (last_of (times_of (r.happenings ++ m ∷ []))) ms = subst (λ (low : ℕ). GoOn r.version low ms) (sym (last_push r.happenings m)) on.1 in
    ap (λ (bytes : List ℕ). read_lines r n (parts_of bytes)) (append_assoc (line (happening_words m)) others rest)
    ∙ step r (says m r) n (happening_line m) (others ++ rest) (happening_one_line r.version (last_of (times_of r.happenings)) m on.0) (happening_again r m on.0)
    ∙ said_run ms (says m r) (n + 1) rest next
    ∙ ap (λ (xs : List Happening). read_lines (record { version = r.version; declared = r.declared; happenings = xs }) (n + 1 + length ms) (parts_of rest)) (append_assoc r.happenings (m ∷ []) ms)
    ∙ ap (λ (k : ℕ). read_lines (record { version = r.version; declared = r.declared; happenings = r.happenings ++ m ∷ ms }) k (parts_of rest)) (omega arith)

no_more : (r : Read) (n : ℕ) → read_lines r n (parts_of []) ≡ Ok r
unfolding read_lines
no_more r n = refl

body_again : (ds : List Declaration) (t : Tree) → IsTree (names_of ds) t
    → read_lines (opened t.version ds) 3 (parts_of (flat_map (λ d. line (declaration_words d)) t.tasks ++ flat_map (λ m. line (happening_words m)) t.happenings)) ≡ Ok (record { version = t.version; declared = ds ++ t.tasks; happenings = t.happenings })
body_again ds t is =
    declared_run t.tasks (opened t.version ds) 3 (flat_map (λ m. line (happening_words m)) t.happenings) is.tasks refl
    ∙ ap (λ (bytes : List ℕ). read_lines (record { version = t.version; declared = ds ++ t.tasks; happenings = [] }) (3 + length t.tasks) (parts_of bytes)) (sym (append-nil (flat_map (λ m. line (happening_words m)) t.happenings)))
    ∙ said_run t.happenings (record { version = t.version; declared = ds ++ t.tasks; happenings = [] }) (3 + length t.tasks) [] is.happenings
    ∙ no_more (record { version = t.version; declared = ds ++ t.tasks; happenings = t.happenings }) (3 + length t.tasks + length t.happenings)

abbrev pub file_of : List Declaration → Tree → FileRead
file_of ds t = record { queue = t.queue; first = 3 + length t.tasks; declared = ds ++ t.tasks; happenings = t.happenings }

-- the text of a tree is read
pub file_again : (ds : List Declaration) (t : Tree) → IsTree (names_of ds) t → read_file ds (text t) ≡ Ok (file_of ds t)
unfolding text
file_again ds t is =
    let small = small_queue t.queue is.queue in
    let body = flat_map (λ d. line (declaration_words d)) t.tasks ++ flat_map (λ m. line (happening_words m)) t.happenings in
    let second = join_with_byte 32 (queue_words t.queue) in
    let rest = (second ++ 10 ∷ []) ++ body in
    let whole : parts_of (text t) ≡ header t.version ∷ parts_of rest = ap parts_of (append_assoc (header t.version) (10 ∷ (second ++ 10 ∷ [])) body) ∙ parts_again (header t.version) rest (header_one_line t.version) in
    let parts : parts_of rest ≡ second ∷ parts_of body = ap parts_of (append_assoc second (10 ∷ []) body) ∙ parts_again second body (queue_one_line t.queue small.0 small.1) in
    first_known t.version ds (text t) (header t.version) rest whole (version_again t.version)
    ∙ second_view t.version ds rest second body t.queue (record { version = t.version; declared = ds ++ t.tasks; happenings = t.happenings }) (3 + length t.tasks) parts (queue_again t.queue small.0 small.1 is.queue) (body_again ds t is) (omega (arith, length-append ds t.tasks))

-- ---- all files

pub files_again : (ts : List Tree) (all : AllRead) (f : ℕ) → AreTrees (names_of all.declared) ts → read_from all f (map text ts) ≡ Ok (record { declared = all.declared ++ all_tasks ts; files = all.files ++ map body_of_tree ts })
unfolding read_from
files_again [] all f are = ap (λ (ds : List Declaration). Ok (record { declared = ds; files = all.files })) (sym (append-nil all.declared)) ∙ ap (λ (bs : List Body). Ok (record { declared = all.declared ++ []; files = bs })) (sym (append-nil all.files))
files_again (t ∷ ts) all f are =
    let names : names_of (all.declared ++ t.tasks) ≡ names_of all.declared ++ names_of t.tasks = map-append (λ (d : Declaration). d.name) all.declared t.tasks in
    ap (λ (x : Result FileRead (Kind × ℕ)). of_file f x >>= λ r. read_from (with_file all r) (f + 1) (map text ts)) (file_again all.declared t are.0)
    ∙ files_again ts (with_file all (file_of all.declared t)) (f + 1) (subst (λ (ns : List (List ℕ)). AreTrees ns ts) (sym names) are.1)
    ∙ ap (λ (ds : List Declaration). Ok (record { declared = ds; files = (all.files ++ body_of_tree t ∷ []) ++ map body_of_tree ts })) (append_assoc all.declared t.tasks (all_tasks ts))
    ∙ ap (λ (bs : List Body). Ok (record { declared = all.declared ++ all_tasks (t ∷ ts); files = bs })) (append_assoc all.files (body_of_tree t ∷ []) (map body_of_tree ts))

pub some_is : (o : Option Line) → IsSome o → (l : Line) × (o ≡ Some l)
some_is None h = absurd cc
some_is (Some l) h = (l, refl)

pub script_again : (names : List (List ℕ)) (ms : List Happening) (done : List Line) (n : ℕ) → AreKnown names ms → script_from names done n ms ≡ Ok (done ++ filter_map (line_in names) ms)
unfolding script_from
script_again names [] done n known = ap (λ (ls : List Line). Ok ls) (sym (append-nil done))
script_again names (m ∷ ms) done n known =
    let s = some_is (line_in names m) known.0 in
    ap (λ (o : Option Line). option_or_err n o >>= λ l. script_from names (done ++ l ∷ []) (n + 1) ms) s.1
    ∙ script_again names ms (done ++ s.0 ∷ []) (n + 1) known.1
    ∙ ap (λ (ls : List Line). Ok ls) (append_assoc done (s.0 ∷ []) (filter_map (line_in names) ms) ∙ ap (λ (o : Option Line). done ++ cons_option o (filter_map (line_in names) ms)) (sym s.1))

scripts_again : (names : List (List ℕ)) (ts : List Tree) (done : List (List Line)) (f : ℕ) → AllByRecursion (λ t. AreKnown names t.happenings) ts → scripts_from names done f (map body_of_tree ts) ≡ Ok (done ++ map (script_of names) ts)
unfolding scripts_from
scripts_again names [] done f known = ap (λ (ls : List (List Line)). Ok ls) (sym (append-nil done))
scripts_again names (t ∷ ts) done f known =
    ap (λ (r : Result (List Line) ℕ). unknown_in f r >>= λ s. scripts_from names (done ++ s ∷ []) (f + 1) (map body_of_tree ts)) (script_again names t.happenings [] (3 + length t.tasks) known.0)
    ∙ scripts_again names ts (done ++ script_of names t ∷ []) (f + 1) known.1
    ∙ ap (λ (ls : List (List Line)). Ok ls) (append_assoc done (script_of names t ∷ []) (map (script_of names) ts))

-- texts of trees are read as their plan
pub plan_again : (files : List (List ℕ)) (ts : List Tree) → Reads files ts → plan_from files ≡ Ok (plan_of ts)
unfolding plan_from
plan_again files ts is =
    let names = names_of (all_tasks ts) in
    let read : read_from (record { declared = []; files = [] }) 0 files ≡ Ok (record { declared = all_tasks ts; files = map body_of_tree ts }) = ap (read_from (record { declared = []; files = [] }) 0) is.texts ∙ files_again ts (record { declared = []; files = [] }) 0 is.together in
    rw (le-ltb 64 (length files) is.few, not_zero (length files) is.some, read, scripts_again names ts [] 0 is.known)
    (ap (λ (qs : List Capacity). Ok (plan_with qs (all_tasks ts) (map (script_of names) ts))) (queues_are ts))
