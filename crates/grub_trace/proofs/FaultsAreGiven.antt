-- A fault by the definitions is the one that reading gives, so there is one at most: the `answered` of IsPlanOrFault.
use Rattle.std.proofs.Common.{◌≡◌, ℕ, zero, suc, ◌+◌, ◌-◌, ◌<◌, ◌≤◌, Bool, true, false, cond, eqb, inl, inr, List, [], ◌∷◌, ◌++◌, length, map, take, drop, Option, Some, None, Result, Ok, Err, refl, ap, ◌∙◌, sym, arith, subst, append_assoc}
use Rattle.grub_trace.proofs.LinesInTurn.{failed}
use Rattle.grub_trace.proofs.Elsewhere.{not_zero}
use Rattle.std.proofs.lemmas.Option.{same_Some, slice_get_within}
use Rattle.std.specs.Prelude.{is_none, slice_get}
use Rattle.std.proofs.lemmas.Bool.{le-ltb, lt-ltb}
use Rattle.grub_plan.specs.Plans.{Line}
use Rattle.std.specs.List.{join_with_byte, flat_map, AllByRecursion, position_from}
use Rattle.std.proofs.lemmas.List.{append-nil, length-map, length-take-le, map-append}
use Rattle.std.proofs.lemmas.List.Splits.{join_with_byte-slice_split}
use Rattle.grub_trace.specs.declared.version.Version.{Version}
use Rattle.grub_trace.specs.declared.fault.Kind.{Kind}
use Rattle.grub_trace.specs.declared.fault.Kind.TheVariants.{CutShort, BadHeader, MissingQueue, BadLine, UnknownTask}
use Rattle.grub_trace.specs.Tree.{Declaration, Happening, Tree, text, line, header, head_text, queue_words, declaration_words, happening_words, names_of}
use Rattle.grub_trace.specs.Faults.{line_fault, header_fault, queue_fault}
use Rattle.grub_trace.specs.inside.Faults.{fault_of_form}
use Rattle.grub_trace.specs.Forms.{Form, form_of, version_of}
use Rattle.text_bytes.specs.Lines.{is_end, words_of, parts_of}
use Rattle.grub_trace.specs.Meaning.{AreKnown, IsTree, AreTrees}
use Rattle.grub_trace.specs.FirstFault.{front_fault, LineFault, FileFault, UnknownFault, IsFault, too_many, no_file, first, unknown}
use Rattle.grub_trace.specs.Naming.{all_tasks, line_in, script_of}
use Rattle.grub_trace.specs.inside.Reading.{Read, FileRead, AllRead, with_file, of_file, read_file, read_first, read_as, opened, file_from, read_second, read_lines, read_from, queue_of, take_option, ok_unless, adds, at_line, ◌>>=◌, times_of, script_from, scripts_from, option_or_err, unknown_in, plan_from}
use Rattle.grub_trace.proofs.PlanLaws.{body_of_tree, is_unknown}
use Rattle.text_bytes.proofs.Splits.{has_part}
use Rattle.grub_trace.proofs.LineLemmas.{first_known, second_then}
use Rattle.grub_trace.proofs.FormLemmas.{version_again}
use Rattle.grub_trace.proofs.FileLaws.{small_queue}
use Rattle.grub_trace.proofs.Printed.{queue_again, queue_one_line}
use Rattle.grub_trace.proofs.TreesAreRead.{script_again, files_again, parts_again, header_one_line, declared_run, said_run, file_again, file_of}

faulty : (o : Option Form) (r : Read) (k : Kind) → fault_of_form r.version (names_of r.declared) (times_of r.happenings) o ≡ Some k → take_option r o ≡ Err k
faulty None r k e = ap (λ (x : Kind). Err x) (same_Some BadLine k e)
faulty (Some f) r k e = ap (λ (o : Option Kind). ok_unless o (adds f r)) e

one_part : (rest last : List ℕ) → parts_of rest ≡ last ∷ [] → rest ≡ last
one_part rest last e = sym (join_with_byte-slice_split 10 rest) ∙ ap (join_with_byte 10) e

stop_here : (r : Read) (n : ℕ) (rest : List ℕ) (parts : List (List ℕ)) (k : Kind) → 0 < length rest → parts_of rest ≡ parts → front_fault CutShort (line_fault r.version (names_of r.declared) (times_of r.happenings)) parts ≡ Some k → read_lines r n parts ≡ Err (k, n)
unfolding read_lines
stop_here r n rest [] k some p e = absurd (let w = has_part is_end rest in let x : [] ≡ w.0 ∷ w.1 = sym p ∙ w.2 in cc)
stop_here r n rest (last ∷ []) k some p e = go (eqb (length last) 0) (not_zero (length last) (subst (λ (l : List ℕ). 0 < length l) (one_part rest last p) some)) e
  where
    go : (b : Bool) → b ≡ false → Some (cond b CutShort CutShort) ≡ Some k → cond b (Ok r) (failed (CutShort, n)) ≡ failed (k, n)
    go true h e = absurd cc
    go false h e = ap (λ (j : Kind). failed (j, n)) (same_Some CutShort k e)
stop_here r n rest (l ∷ t ∷ more) k some p e = ap (λ (x : Result Read Kind). at_line n x >>= λ s. read_lines s (n + 1) (t ∷ more)) (faulty (form_of (words_of l)) r k e)

lines_stop : (ds : List Declaration) (t : Tree) (rest : List ℕ) (k : Kind) → IsTree (names_of ds) t → 0 < length rest
    → front_fault CutShort (line_fault t.version (names_of ds ++ names_of t.tasks) (map (λ h. h.m) t.happenings)) (parts_of rest) ≡ Some k
    → read_lines (opened t.version ds) 3 (parts_of ((flat_map (λ d. line (declaration_words d)) t.tasks ++ flat_map (λ m. line (happening_words m)) t.happenings) ++ rest)) ≡ Err (k, 3 + length t.tasks + length t.happenings)
lines_stop ds t rest k is some e =
    let said = flat_map (λ m. line (happening_words m)) t.happenings in
    let names : names_of (ds ++ t.tasks) ≡ names_of ds ++ names_of t.tasks = map-append (λ (d : Declaration). d.name) ds t.tasks in
    ap (λ (bytes : List ℕ). read_lines (opened t.version ds) 3 (parts_of bytes)) (append_assoc (flat_map (λ d. line (declaration_words d)) t.tasks) said rest)
    ∙ declared_run t.tasks (opened t.version ds) 3 (said ++ rest) is.tasks refl
    ∙ said_run t.happenings (record { version = t.version; declared = ds ++ t.tasks; happenings = [] }) (3 + length t.tasks) rest is.happenings
    ∙ stop_here (record { version = t.version; declared = ds ++ t.tasks; happenings = t.happenings }) (3 + length t.tasks + length t.happenings) rest (parts_of rest) k some refl
    (ap (λ (ns : List (List ℕ)). front_fault CutShort (line_fault t.version ns (map (λ h. h.m) t.happenings)) (parts_of rest)) names ∙ e)

header_again : (ds : List Declaration) (parts : List (List ℕ)) (k : Kind) → front_fault BadHeader header_fault parts ≡ Some k → read_first ds parts ≡ Err (k, 1)
unfolding read_first
header_again ds [] k e = ap (λ (j : Kind). Err (j, 1)) (same_Some BadHeader k e)
header_again ds (l ∷ []) k e = ap (λ (j : Kind). Err (j, 1)) (same_Some _ k e)
header_again ds (l ∷ t ∷ more) k e = go (version_of l) e
  where
    go : (o : Option Version) → cond (is_none o) (Some BadHeader) None ≡ Some k → read_as o ds (t ∷ more) ≡ Err (k, 1)
    go None e = ap (λ (j : Kind). Err (j, 1)) (same_Some BadHeader k e)
    go (Some version) e = absurd cc

second_again : (version : Version) (ds : List Declaration) (parts : List (List ℕ)) (k : Kind) → front_fault MissingQueue queue_fault parts ≡ Some k → read_second version ds parts ≡ Err (k, 2)
unfolding read_second
second_again version ds [] k e = ap (λ (j : Kind). Err (j, 2)) (same_Some MissingQueue k e)
second_again version ds (l ∷ []) k e = ap (λ (j : Kind). Err (j, 2)) (same_Some _ k e)
second_again version ds (l ∷ t ∷ more) k e = ap (λ (o : Option Kind). at_line 2 (ok_unless o (queue_of (form_of (words_of l)))) >>= λ q. read_lines (opened version ds) 3 (t ∷ more) >>= λ r. Ok (file_from q (3 + (length r.declared - length ds)) r)) e

-- after a right first line
after_header : (version : Version) (ds : List Declaration) (bytes rest : List ℕ) → bytes ≡ header version ++ 10 ∷ rest → read_file ds bytes ≡ read_second version ds (parts_of rest)
after_header version ds bytes rest e =
    first_known version ds bytes (header version) rest (ap parts_of e ∙ parts_again (header version) rest (header_one_line version)) (version_again version)

line_again : (ds : List Declaration) (bytes : List ℕ) (k : Kind) (n : ℕ) → LineFault (names_of ds) bytes k n → read_file ds bytes ≡ Err (k, n)
unfolding text
line_again ds bytes k n f =
    let t = f.tree in
    let small = small_queue t.queue f.is.queue in
    let body = flat_map (λ d. line (declaration_words d)) t.tasks ++ flat_map (λ m. line (happening_words m)) t.happenings in
    let second = join_with_byte 32 (queue_words t.queue) in
    let rest = (second ++ 10 ∷ []) ++ (body ++ f.rest) in
    let whole : bytes ≡ header t.version ++ 10 ∷ rest =
    f.front ∙ append_assoc (head_text t.version t.queue) body f.rest ∙ append_assoc (header t.version) (10 ∷ (second ++ 10 ∷ [])) (body ++ f.rest) in
    let parts : parts_of rest ≡ second ∷ parts_of (body ++ f.rest) = ap parts_of (append_assoc second (10 ∷ []) (body ++ f.rest)) ∙ parts_again second (body ++ f.rest) (queue_one_line t.queue small.0 small.1) in
    after_header t.version ds bytes rest whole
    ∙ second_then t.version ds rest second (body ++ f.rest) t.queue parts (queue_again t.queue small.0 small.1 f.is.queue)
    ∙ ap (λ (x : Result Read (Kind × ℕ)). x >>= λ r. Ok (file_from t.queue (3 + (length r.declared - length ds)) r)) (lines_stop ds t f.rest k f.is f.more f.fault)
    ∙ ap (λ (m : ℕ). Err (k, m)) (sym f.number)

pub file_fault_again : (ds : List Declaration) (bytes : List ℕ) (k : Kind) (n : ℕ) → FileFault (names_of ds) bytes k n → read_file ds bytes ≡ Err (k, n)
unfolding read_file
file_fault_again ds bytes k n (inl h) = header_again ds (parts_of bytes) k h.1 ∙ ap (λ (m : ℕ). Err (k, m)) (sym h.0)
file_fault_again ds bytes k n (inr (inl q)) = after_header q.version ds bytes q.rest q.front ∙ second_again q.version ds (parts_of q.rest) k q.fault ∙ ap (λ (m : ℕ). Err (k, m)) (sym q.number)
file_fault_again ds bytes k n (inr (inr f)) = line_again ds bytes k n f

pub first_fault_again : (fronts : List Tree) (all : AllRead) (g : ℕ) (bytes : List ℕ) (more : List (List ℕ)) (k : Kind) (n : ℕ) → AreTrees (names_of all.declared) fronts → FileFault (names_of all.declared ++ names_of (all_tasks fronts)) bytes k n
    → read_from all g (map text fronts ++ bytes ∷ more) ≡ Err (k, g + length fronts, n)
unfolding read_from
first_fault_again [] all g bytes more k n are f =
    let h = file_fault_again all.declared bytes k n (subst (λ (ns : List (List ℕ)). FileFault ns bytes k n) (append-nil (names_of all.declared)) f) in
    ap (λ (x : Result FileRead (Kind × ℕ)). of_file g x >>= λ r. read_from (with_file all r) (g + 1) more) h ∙ ap (λ (m : ℕ). Err (k, m, n)) (omega arith)
first_fault_again (t ∷ ts) all g bytes more k n are f =
    let names : names_of (all.declared ++ t.tasks) ≡ names_of all.declared ++ names_of t.tasks = map-append (λ (d : Declaration). d.name) all.declared t.tasks in
    let same : names_of (all.declared ++ t.tasks) ++ names_of (all_tasks ts) ≡ names_of all.declared ++ names_of (all_tasks (t ∷ ts)) =
    ap (λ (xs : List (List ℕ)). xs ++ names_of (all_tasks ts)) names ∙ append_assoc (names_of all.declared) (names_of t.tasks) (names_of (all_tasks ts)) ∙ ap (λ (xs : List (List ℕ)). names_of all.declared ++ xs) (sym (map-append (λ (d : Declaration). d.name) t.tasks (all_tasks ts))) in
    ap (λ (x : Result FileRead (Kind × ℕ)). of_file g x >>= λ r. read_from (with_file all r) (g + 1) (map text ts ++ bytes ∷ more)) (file_again all.declared t are.0)
    ∙ first_fault_again ts (with_file all (file_of all.declared t)) (g + 1) bytes more k n (subst (λ (ns : List (List ℕ)). AreTrees ns ts) (sym names) are.1) (subst (λ (ns : List (List ℕ)). FileFault ns bytes k n) (sym same) f)
    ∙ ap (λ (m : ℕ). Err (k, m, n)) (omega arith)

-- ---- names that are not declared

script_stop_again : (names : List (List ℕ)) (hs : List Happening) (done : List Line) (n m : ℕ) → position_from (is_unknown names) n hs ≡ Some m → script_from names done n hs ≡ Err m
unfolding script_from
script_stop_again names [] done n m there = absurd cc
script_stop_again names (h ∷ hs) done n m there = go (λ l later. script_stop_again names hs (done ++ l ∷ []) (n + 1) m later) (line_in names h) refl
  where
    go : ((l : Line) → position_from (is_unknown names) (n + 1) hs ≡ Some m → script_from names (done ++ l ∷ []) (n + 1) hs ≡ Err m)
        → (o : Option Line) → line_in names h ≡ o → (option_or_err n (line_in names h) >>= λ l. script_from names (done ++ l ∷ []) (n + 1) hs) ≡ Err m
    go rest o is = ap (λ (o : Option Line). option_or_err n o >>= λ l. script_from names (done ++ l ∷ []) (n + 1) hs) is ∙ stop o (sym (ap (λ (o : Option Line). cond (is_none o) (Some n) (position_from (is_unknown names) (n + 1) hs)) is) ∙ there)
      where
        stop : (o : Option Line) → cond (is_none o) (Some n) (position_from (is_unknown names) (n + 1) hs) ≡ Some m → (option_or_err n o >>= λ l. script_from names (done ++ l ∷ []) (n + 1) hs) ≡ Err m
        stop None here = let same : n ≡ m = cc in ap Err same
        stop (Some l) later = rest l later

scripts_stop_again : (names : List (List ℕ)) (ts : List Tree) (g : ℕ) (t : Tree) (done : List (List Line)) (f n : ℕ) → slice_get ts g ≡ Some t → AllByRecursion (λ (t : Tree). AreKnown names t.happenings) (take g ts)
    → position_from (is_unknown names) (3 + length t.tasks) t.happenings ≡ Some n → scripts_from names done f (map body_of_tree ts) ≡ Err (UnknownTask, f + g, n)
unfolding scripts_from
scripts_stop_again names [] g t done f n is known there = absurd cc
scripts_stop_again names (x ∷ xs) zero t done f n is known there =
    let same : t ≡ x = cc in
    let s = script_stop_again names x.happenings [] (3 + length x.tasks) n (subst (λ (y : Tree). position_from (is_unknown names) (3 + length y.tasks) y.happenings ≡ Some n) same there) in
    ap (λ (r : Result (List Line) ℕ). unknown_in f r >>= λ s. scripts_from names (done ++ s ∷ []) (f + 1) (map body_of_tree xs)) s ∙ ap (λ (g : ℕ). Err (UnknownTask, g, n)) (omega arith)
scripts_stop_again names (x ∷ xs) (suc g) t done f n is known there =
    ap (λ (r : Result (List Line) ℕ). unknown_in f r >>= λ s. scripts_from names (done ++ s ∷ []) (f + 1) (map body_of_tree xs)) (script_again names x.happenings [] (3 + length x.tasks) known.0)
    ∙ scripts_stop_again names xs g t (done ++ script_of names x ∷ []) (f + 1) n is known.1 there ∙ ap (λ (g : ℕ). Err (UnknownTask, g, n)) (omega arith)

unknown_again : (files : List (List ℕ)) (f n : ℕ) → 1 ≤ length files → length files ≤ 64 → UnknownFault files f n → plan_from files ≡ Err (UnknownTask, f, n)
unfolding plan_from
unknown_again files f n some few u =
    let read : read_from (record { declared = []; files = [] }) 0 files ≡ Ok (record { declared = all_tasks u.trees; files = map body_of_tree u.trees }) = ap (read_from (record { declared = []; files = [] }) 0) u.texts ∙ files_again u.trees (record { declared = []; files = [] }) 0 u.together in
    let stop : scripts_from (names_of (all_tasks u.trees)) [] 0 (map body_of_tree u.trees) ≡ Err (UnknownTask, f, n) =
    scripts_stop_again (names_of (all_tasks u.trees)) u.trees f u.tree [] 0 n u.is u.before u.first ∙ ap (λ (g : ℕ). Err (UnknownTask, g, n)) (omega arith) in
    rw (le-ltb 64 (length files) few, not_zero (length files) some, read, stop) refl

-- a list by one of its elements
pub parts_at : {X : Type 0} (xs : List X) (i : ℕ) (x : X) → slice_get xs i ≡ Some x → xs ≡ take i xs ++ x ∷ drop (suc i) xs
parts_at [] i x is = absurd cc
parts_at (y ∷ ys) zero x is = let same : y ≡ x = cc in ap (λ z. z ∷ ys) same
parts_at (y ∷ ys) (suc i) x is = ap (λ l. y ∷ l) (parts_at ys i x is)

-- the fault that the definitions say is the one that reading gives
pub plan_fault_again : (files : List (List ℕ)) (k : Kind) (f n : ℕ) → IsFault files k f n → plan_from files ≡ Err (k, f, n)
unfolding plan_from
plan_fault_again files _ _ _ (too_many h) = rw (lt-ltb 64 (length files) h) refl
plan_fault_again files _ _ _ (no_file h) = rw (h) refl
plan_fault_again files _ _ _ (first k f n some few x) =
    let none : AllRead = record { declared = []; files = [] } in
    let within = slice_get_within files f x.bytes x.is in
    let file : f ≡ length x.fronts = sym (length-take-le f files (omega (arith, within))) ∙ ap length x.texts ∙ length-map x.fronts text in
    let stop : read_from none 0 files ≡ Err (k, f, n) =
    ap (read_from none 0) (parts_at files f x.bytes x.is ∙ ap (λ (fs : List (List ℕ)). fs ++ x.bytes ∷ drop (suc f) files) x.texts)
    ∙ first_fault_again x.fronts none 0 x.bytes (drop (suc f) files) k n x.together x.fault ∙ ap (λ (g : ℕ). Err (k, g, n)) (omega (arith, file)) in
    rw (le-ltb 64 (length files) few, not_zero (length files) some, stop) refl
plan_fault_again files _ _ _ (unknown f n some few x) = unknown_again files f n some few x
