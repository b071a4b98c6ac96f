-- The laws of reading all files.
use Rattle.std.proofs.Common.{◌≡◌, ℕ, zero, suc, ◌+◌, ◌<◌, ◌≤◌, Bool, true, false, cond, eqb, ltb, ◌⊎◌, inl, inr, List, [], ◌∷◌, ◌++◌, length, map, take, is_none, Option, Some, None, Result, Ok, Err, refl, ap, ◌∙◌, sym, arith, subst, append_assoc}
use Rattle.std.specs.Prelude.{IsSome, slice_get}
use Rattle.std.specs.List.{filter_map, AllByRecursion, cons_option, position_from}
use Rattle.std.proofs.lemmas.Bool.{eqb-true, eqb-false, ltb-true, ltb-false}
use Rattle.std.proofs.lemmas.List.{append-nil, map-append, take-map}
use Rattle.grub_book.specs.Bandwidth.{Capacity}
use Rattle.grub_trace.specs.declared.fault.Kind.{Kind}
use Rattle.grub_trace.specs.declared.fault.Kind.TheVariants.{UnknownTask, OutOfRange, MissingQueue}
use Rattle.grub_trace.specs.Tree.{Declaration, Happening, Tree, text, names_of}
use Rattle.grub_plan.specs.Plans.{Line, PlanView}
use Rattle.grub_trace.specs.Naming.{line_in, script_of, all_tasks, plan_of, plan_with}
use Rattle.grub_trace.specs.Meaning.{AreKnown, Reads, AreTrees}
use Rattle.grub_trace.specs.FirstFault.{FileFault, FirstFault, UnknownFault, IsFault, too_many, no_file, first, unknown}
use Rattle.grub_trace.specs.inside.Reading.{AllRead, FileRead, Body, body_of, with_file, of_file, read_file, read_from, ◌>>=◌, script_from, option_or_err, scripts_from, unknown_in, plan_from, plan_of_read}
use Rattle.grub_trace.proofs.LineLemmas.{bind_err, bind_ok, same_error, same_value}
use Rattle.grub_trace.proofs.FileLaws.{file_read, file_fault, FileIs}

-- ---- names to numbers

pub script_read : (names : List (List ℕ)) (ms : List Happening) (done s : List Line) (n : ℕ) → script_from names done n ms ≡ Ok s → (s ≡ done ++ filter_map (line_in names) ms) × AreKnown names ms
unfolding script_from
script_read names [] done s n e = (let h : done ≡ s = cc in sym h ∙ sym (append-nil done), tt)
script_read names (m ∷ more) done s n e = go (λ l h. script_read names more (done ++ l ∷ []) s (n + 1) h) (line_in names m) refl e
  where
    go : ((l : Line) → script_from names (done ++ l ∷ []) (n + 1) more ≡ Ok s → (s ≡ (done ++ l ∷ []) ++ filter_map (line_in names) more) × AreKnown names more)
        → (o : Option Line) → line_in names m ≡ o → (option_or_err n o >>= λ l. script_from names (done ++ l ∷ []) (n + 1) more) ≡ Ok s → (s ≡ done ++ filter_map (line_in names) (m ∷ more)) × AreKnown names (m ∷ more)
    go rest None is e = absurd cc
    go rest (Some l) is e =
        let h = rest l e in (
          h.0 ∙ append_assoc done (l ∷ []) (filter_map (line_in names) more) ∙ ap (λ (o : Option Line). done ++ cons_option o (filter_map (line_in names) more)) (sym is),
          (subst (λ (o : Option Line). IsSome o) (sym is) refl, h.1),
        )

-- a line names a task that is not declared
abbrev pub is_unknown : List (List ℕ) → Happening → Bool
is_unknown names h = is_none (line_in names h)

pub script_stops : (names : List (List ℕ)) (ms : List Happening) (done : List Line) (n m : ℕ) → script_from names done n ms ≡ Err m → position_from (is_unknown names) n ms ≡ Some m
unfolding script_from
script_stops names [] done n m e = absurd cc
script_stops names (x ∷ more) done n m e = go (λ l h. script_stops names more (done ++ l ∷ []) (n + 1) m h) (line_in names x) refl e
  where
    go : ((l : Line) → script_from names (done ++ l ∷ []) (n + 1) more ≡ Err m → position_from (is_unknown names) (n + 1) more ≡ Some m)
        → (o : Option Line) → line_in names x ≡ o → (option_or_err n o >>= λ l. script_from names (done ++ l ∷ []) (n + 1) more) ≡ Err m → position_from (is_unknown names) n (x ∷ more) ≡ Some m
    go rest None is e = ap (λ o. cond (is_none o) (Some n) (position_from (is_unknown names) (n + 1) more)) is ∙ (let h : n ≡ m = cc in ap Some h)
    go rest (Some l) is e = ap (λ o. cond (is_none o) (Some n) (position_from (is_unknown names) (n + 1) more)) is ∙ rest l e

unknown_ok : {X : Type 0} (f : ℕ) (r : Result X ℕ) (x : X) → unknown_in f r ≡ Ok x → r ≡ Ok x
unknown_ok f (Ok y) x e = let h : y ≡ x = cc in ap Ok h
unknown_ok f (Err n) x e = absurd cc

pub scripts_read : (names : List (List ℕ)) (bs : List Body) (done ss : List (List Line)) (f : ℕ) → scripts_from names done f bs ≡ Ok ss → (ss ≡ done ++ map (λ (b : Body). filter_map (line_in names) b.happenings) bs) × AllByRecursion (λ (b : Body). AreKnown names b.happenings) bs
unfolding scripts_from
scripts_read names [] done ss f e = (let h : done ≡ ss = cc in sym h ∙ sym (append-nil done), tt)
scripts_read names (b ∷ more) done ss f e =
    let a = bind_ok (unknown_in f (script_from names [] b.first b.happenings)) (λ s. scripts_from names (done ++ s ∷ []) (f + 1) more) ss e in
    let s = script_read names b.happenings [] a.0 b.first (unknown_ok f (script_from names [] b.first b.happenings) a.0 a.1) in
    let h = scripts_read names more (done ++ a.0 ∷ []) ss (f + 1) a.2 in
    (h.0 ∙ append_assoc done (a.0 ∷ []) (map (λ (b : Body). filter_map (line_in names) b.happenings) more) ∙ ap (λ (x : List Line). done ++ x ∷ map (λ (b : Body). filter_map (line_in names) b.happenings) more) s.0, (s.1, h.1))

-- where the scripts stop
pub record ScriptsStop (names : List (List ℕ)) (bs : List Body) (k : Kind) (g n : ℕ) : Type 0 where
  pub kind : k ≡ UnknownTask
  pub body : Body
  pub is : slice_get bs g ≡ Some body
  pub before : AllByRecursion (λ (b : Body). AreKnown names b.happenings) (take g bs)
  pub first : position_from (is_unknown names) body.first body.happenings ≡ Some n

abbrev Where : Type 0
Where = Kind × ℕ × ℕ

unknown_err : (f : ℕ) (r : Result (List Line) ℕ) (k : Kind) (g n : ℕ) → unknown_in f r ≡ Err (k, g, n) → (r ≡ Err n) × (k ≡ UnknownTask) × (g ≡ f)
unknown_err f (Ok x) k g n e = absurd cc
unknown_err f (Err m) k g n e =
    let p = same_error {X = List Line} (UnknownTask, f, m) (k, g, n) e in
    (ap (λ (x : Where). Err x.2) p, sym (ap (λ (x : Where). x.0) p), sym (ap (λ (x : Where). x.1) p))

pub scripts_stops : (names : List (List ℕ)) (bs : List Body) (done : List (List Line)) (f : ℕ) (k : Kind) (g n : ℕ) → scripts_from names done f bs ≡ Err (k, g, n) → (i : ℕ) × ScriptsStop names bs k i n × (g ≡ f + i)
unfolding scripts_from
scripts_stops names [] done f k g n e = absurd cc
scripts_stops names (b ∷ more) done f k g n e =
    elim (bind_err (unknown_in f (script_from names [] b.first b.happenings)) (λ s. scripts_from names (done ++ s ∷ []) (f + 1) more) (k, g, n) e) [
      | inl x ↦ let u = unknown_err f (script_from names [] b.first b.happenings) k g n x in
          (0, record { kind = u.1; body = b; is = refl; before = tt; first = script_stops names b.happenings [] b.first n u.0 }, omega (arith, u.2))
      | inr x ↦ let s = script_read names b.happenings [] x.0 b.first (unknown_ok f (script_from names [] b.first b.happenings) x.0 x.1) in
          let h = scripts_stops names more (done ++ x.0 ∷ []) (f + 1) k g n x.2 in
          let u = h.1 in
          (suc h.0, record { kind = u.kind; body = u.body; is = u.is; before = (s.1, u.before); first = u.first }, omega (arith, h.2))
    ]

-- ---- files

abbrev pub body_of_tree : Tree → Body
body_of_tree t = record { queue = t.queue; first = 3 + length t.tasks; happenings = t.happenings }

pub record AllIs (all : AllRead) (files : List (List ℕ)) (res : AllRead) : Type 0 where
  pub trees : List Tree
  pub texts : files ≡ map text trees
  pub trees_are : AreTrees (names_of all.declared) trees
  pub declared_is : res.declared ≡ all.declared ++ all_tasks trees
  pub bodies_are : res.files ≡ all.files ++ map body_of_tree trees

of_file_ok : {X : Type 0} (f : ℕ) (r : Result X (Kind × ℕ)) (x : X) → of_file f r ≡ Ok x → r ≡ Ok x
of_file_ok f (Ok y) x e = let h : y ≡ x = cc in ap Ok h
of_file_ok f (Err n) x e = absurd cc

pub of_file_err : {X : Type 0} (f : ℕ) (r : Result X (Kind × ℕ)) (k : Kind) (g n : ℕ) → of_file f r ≡ Err (k, g, n) → (r ≡ Err (k, n)) × (g ≡ f)
of_file_err f (Ok x) k g n e = absurd cc
of_file_err {X} f (Err m) k g n e =
    let p = same_error {X = X} (m.0, f, m.1) (k, g, n) e in
    (ap (λ (x : Where). Err (x.0, x.2)) p, sym (ap (λ (x : Where). x.1) p))

body_is : (ds : List Declaration) (bytes : List ℕ) (r : FileRead) (h : FileIs ds bytes r) → body_of r ≡ body_of_tree h.tree
body_is ds bytes r h = rw (h.queue_is, h.first_is, h.happenings_are) refl

names_after : (ds ts : List Declaration) (r : FileRead) → r.declared ≡ ds ++ ts → names_of r.declared ≡ names_of ds ++ names_of ts
names_after ds ts r e = ap names_of e ∙ map-append (λ (d : Declaration). d.name) ds ts

pub files_read : (files : List (List ℕ)) (all res : AllRead) (f : ℕ) → read_from all f files ≡ Ok res → AllIs all files res
unfolding read_from
files_read [] all res f e =
    let h : all ≡ res = cc in
    record { trees = []; texts = refl; trees_are = tt; declared_is = ap (λ (x : AllRead). x.declared) (sym h) ∙ sym (append-nil all.declared); bodies_are = ap (λ (x : AllRead). x.files) (sym h) ∙ sym (append-nil all.files) }
files_read (bytes ∷ more) all res f e =
    let a = bind_ok (of_file f (read_file all.declared bytes)) (λ r. read_from (with_file all r) (f + 1) more) res e in
    let t = file_read all.declared bytes a.0 (of_file_ok f (read_file all.declared bytes) a.0 a.1) in
    let h = files_read more (with_file all a.0) res (f + 1) a.2 in
    record {
      trees = t.tree ∷ h.trees;
      texts = ap (λ (x : List ℕ). x ∷ more) t.whole ∙ ap (λ (xs : List (List ℕ)). text t.tree ∷ xs) h.texts;
      trees_are = (t.is, subst (λ (ns : List (List ℕ)). AreTrees ns h.trees) (names_after all.declared t.tree.tasks a.0 t.declared_is) h.trees_are);
      declared_is = h.declared_is ∙ ap (λ (ds : List Declaration). ds ++ all_tasks h.trees) t.declared_is ∙ append_assoc all.declared t.tree.tasks (all_tasks h.trees);
      bodies_are = h.bodies_are ∙ append_assoc all.files (body_of a.0 ∷ []) (map body_of_tree h.trees) ∙ ap (λ (b : Body). all.files ++ b ∷ map body_of_tree h.trees) (body_is all.declared bytes a.0 t);
    }

pub files_fault : (files : List (List ℕ)) (all : AllRead) (f : ℕ) (k : Kind) (g n : ℕ) → read_from all f files ≡ Err (k, g, n) → (i : ℕ) × FirstFault (names_of all.declared) files k i n × (g ≡ f + i)
unfolding read_from
files_fault [] all f k g n e = absurd cc
files_fault (bytes ∷ more) all f k g n e =
    elim (bind_err (of_file f (read_file all.declared bytes)) (λ r. read_from (with_file all r) (f + 1) more) (k, g, n) e) [
      | inl x ↦ let u = of_file_err f (read_file all.declared bytes) k g n x in (
        0,
        record {
          fronts = [];
          texts = refl;
          together = tt;
          bytes = bytes;
          is = refl;
          fault = subst (λ (ns : List (List ℕ)). FileFault ns bytes k n) (sym (append-nil (names_of all.declared))) (file_fault all.declared bytes k n u.0);
        },
        omega (arith, u.1),
      )
      | inr x ↦ let t = file_read all.declared bytes x.0 (of_file_ok f (read_file all.declared bytes) x.0 x.1) in
          let h = files_fault more (with_file all x.0) (f + 1) k g n x.2 in
          let u = h.1 in
          let ns = names_after all.declared t.tree.tasks x.0 t.declared_is in (
            suc h.0,
            record {
              fronts = t.tree ∷ u.fronts;
              texts = ap (λ (x : List ℕ). x ∷ take h.0 more) t.whole ∙ ap (λ (xs : List (List ℕ)). text t.tree ∷ xs) u.texts;
              together = (t.is, subst (λ (ns : List (List ℕ)). AreTrees ns u.fronts) ns u.together);
              bytes = u.bytes;
              is = u.is;
              fault = subst (λ (ns : List (List ℕ)). FileFault ns u.bytes k n)
                  (ap (λ (xs : List (List ℕ)). xs ++ names_of (all_tasks u.fronts)) ns ∙ append_assoc (names_of all.declared) (names_of t.tree.tasks) (names_of (all_tasks u.fronts)) ∙ ap (λ (xs : List (List ℕ)). names_of all.declared ++ xs) (sym (map-append (λ (d : Declaration). d.name) t.tree.tasks (all_tasks u.fronts)))) u.fault;
            },
            omega (arith, h.2),
          )
    ]

-- ---- the plan

known_bodies : (names : List (List ℕ)) (ts : List Tree) → AllByRecursion (λ (b : Body). AreKnown names b.happenings) (map body_of_tree ts) → AllByRecursion (λ (t : Tree). AreKnown names t.happenings) ts
known_bodies names [] h = tt
known_bodies names (t ∷ ts) h = (h.0, known_bodies names ts h.1)

pub scripts_are : (names : List (List ℕ)) (ts : List Tree) → map (λ (b : Body). filter_map (line_in names) b.happenings) (map body_of_tree ts) ≡ map (script_of names) ts
scripts_are names [] = refl
scripts_are names (t ∷ ts) = ap (λ (xs : List (List Line)). script_of names t ∷ xs) (scripts_are names ts)

pub queues_are : (ts : List Tree) → map (λ (b : Body). b.queue) (map body_of_tree ts) ≡ map (λ (t : Tree). t.queue) ts
queues_are [] = refl
queues_are (t ∷ ts) = ap (λ (xs : List Capacity). t.queue ∷ xs) (queues_are ts)

-- the tree of a body
tree_at : (ts : List Tree) (i : ℕ) (b : Body) → slice_get (map body_of_tree ts) i ≡ Some b → (t : Tree) × (slice_get ts i ≡ Some t) × (body_of_tree t ≡ b)
tree_at [] i b e = absurd cc
tree_at (t ∷ ts) zero b e = (t, refl, cc)
tree_at (t ∷ ts) (suc i) b e = tree_at ts i b e

-- what the first two tests leave
counts : (files : List (List ℕ)) (p : Result PlanView Where) → plan_from files ≡ p → ((64 < length files) × (p ≡ Err (OutOfRange, 64, 1))) ⊎ ((length files ≡ 0) × (p ≡ Err (MissingQueue, 0, 1))) ⊎ ((1 ≤ length files) × (length files ≤ 64) × ((read_from (record { declared = []; files = [] }) 0 files >>= λ all. plan_of_read all) ≡ p))
unfolding plan_from
counts files p e = many (ltb 64 (length files)) refl e
  where
    none : (b : Bool) → length files ≤ 64 → eqb (length files) 0 ≡ b → cond b (Err (MissingQueue, 0, 1)) (read_from (record { declared = []; files = [] }) 0 files >>= λ all. plan_of_read all) ≡ p → ((64 < length files) × (p ≡ Err (OutOfRange, 64, 1))) ⊎ ((length files ≡ 0) × (p ≡ Err (MissingQueue, 0, 1))) ⊎ ((1 ≤ length files) × (length files ≤ 64) × ((read_from (record { declared = []; files = [] }) 0 files >>= λ all. plan_of_read all) ≡ p))
    none true le is e = inr (inl (eqb-true (length files) 0 is, sym e))
    none false le is e = inr (inr (let ne = eqb-false (length files) 0 is in grind arith, le, e))

    many : (b : Bool) → ltb 64 (length files) ≡ b → cond b (Err (OutOfRange, 64, 1)) (cond (eqb (length files) 0) (Err (MissingQueue, 0, 1)) (read_from (record { declared = []; files = [] }) 0 files >>= λ all. plan_of_read all)) ≡ p → ((64 < length files) × (p ≡ Err (OutOfRange, 64, 1))) ⊎ ((length files ≡ 0) × (p ≡ Err (MissingQueue, 0, 1))) ⊎ ((1 ≤ length files) × (length files ≤ 64) × ((read_from (record { declared = []; files = [] }) 0 files >>= λ all. plan_of_read all) ≡ p))
    many true is e = inl (ltb-true 64 (length files) is, sym e)
    many false is e = none (eqb (length files) 0) (ltb-false 64 (length files) is) refl e

ok_or_err : (p : PlanView) (w : Where) → ◌≡◌ {A = Result PlanView Where} (Ok p) (Err w) → ⊥
ok_or_err p w e = cc

-- what is read is the plan of trees whose texts the files are
pub plan_read : (files : List (List ℕ)) (p : PlanView) → plan_from files ≡ Ok p → (trees : List Tree) × Reads files trees × (p ≡ plan_of trees)
plan_read files p e =
    elim (counts files (Ok p) e) [
      | inl h ↦ absurd (ok_or_err p (OutOfRange, 64, 1) h.1)
      | inr h ↦ elim h [
        | inl h ↦ absurd (ok_or_err p (MissingQueue, 0, 1) h.1)
        | inr h ↦
            let a = bind_ok (read_from (record { declared = []; files = [] }) 0 files) (λ all. plan_of_read all) p h.2 in
            let t = files_read files (record { declared = []; files = [] }) a.0 0 a.1 in
            let b = bind_ok (scripts_from (names_of a.0.declared) [] 0 a.0.files) (λ ss. Ok (plan_with (map (λ b. b.queue) a.0.files) (a.0.declared) (ss))) p a.2 in
            let s = scripts_read (names_of a.0.declared) a.0.files [] b.0 0 b.1 in
            let names : names_of a.0.declared ≡ names_of (all_tasks t.trees) = ap names_of t.declared_is in
            let known = subst (λ (bs : List Body). AllByRecursion (λ (b : Body). AreKnown (names_of a.0.declared) b.happenings) bs) t.bodies_are s.1 in (
              t.trees,
              record {
                some = h.0;
                few = h.1;
                texts = t.texts;
                together = t.trees_are;
                known = subst (λ (ns : List (List ℕ)). AllByRecursion (λ (t : Tree). AreKnown ns t.happenings) t.trees) names (known_bodies (names_of a.0.declared) t.trees known);
              },
              sym (same_value {E = Where} (plan_with (map (λ b. b.queue) a.0.files) (a.0.declared) (b.0)) p b.2)
                  ∙ ap (λ (ss : List (List Line)). plan_with (map (λ b. b.queue) a.0.files) (a.0.declared) (ss)) s.0
                  ∙ ap (λ (bs : List Body). plan_with (map (λ b. b.queue) bs) (a.0.declared) (map (λ (b : Body). filter_map (line_in (names_of a.0.declared)) b.happenings) bs)) t.bodies_are
                  ∙ ap (λ (qs : List Capacity). plan_with (qs) (a.0.declared) (map (λ (b : Body). filter_map (line_in (names_of a.0.declared)) b.happenings) (map body_of_tree t.trees))) (queues_are t.trees)
                  ∙ ap (λ (ss : List (List Line)). plan_with (map (λ (t : Tree). t.queue) t.trees) (a.0.declared) (ss)) (scripts_are (names_of a.0.declared) t.trees)
                  ∙ ap (λ (ds : List Declaration). plan_with (map (λ (t : Tree). t.queue) t.trees) (ds) (map (script_of (names_of ds)) t.trees)) t.declared_is,
            )
      ]
    ]

-- a fault is the one that is answered
pub plan_fault : (files : List (List ℕ)) (k : Kind) (f n : ℕ) → plan_from files ≡ Err (k, f, n) → IsFault files k f n
plan_fault files k f n e =
    elim (counts files (Err (k, f, n)) e) [
      | inl h ↦ let p = same_error {X = PlanView} (OutOfRange, 64, 1) (k, f, n) (sym h.1) in
          subst (λ (w : Where). IsFault files w.0 w.1 w.2) p (too_many h.0)
      | inr h ↦ elim h [
        | inl h ↦ let p = same_error {X = PlanView} (MissingQueue, 0, 1) (k, f, n) (sym h.1) in
            subst (λ (w : Where). IsFault files w.0 w.1 w.2) p (no_file h.0)
        | inr h ↦ elim (bind_err (read_from (record { declared = []; files = [] }) 0 files) (λ all. plan_of_read all) (k, f, n) h.2) [
          | inl x ↦ let u = files_fault files (record { declared = []; files = [] }) 0 k f n x in
              let same : u.0 ≡ f = omega (arith, u.2) in
              first k f n h.0 h.1 (subst (λ (i : ℕ). FirstFault [] files k i n) same u.1)
          | inr x ↦
              let t = files_read files (record { declared = []; files = [] }) x.0 0 x.1 in
              let u = unknown_fault files k f n x.0 t x.2 in subst (λ j. IsFault files j f n) (sym u.0) (unknown f n h.0 h.1 u.1)
        ]
      ]
    ]
  where
    unknown_fault : (files : List (List ℕ)) (k : Kind) (f n : ℕ) (all : AllRead) (t : AllIs (record { declared = []; files = [] }) files all) → plan_of_read all ≡ Err (k, f, n) → (k ≡ UnknownTask) × UnknownFault files f n
    unknown_fault files k f n all t e =
        elim (bind_err (scripts_from (names_of all.declared) [] 0 all.files) (λ ss. Ok (plan_with (map (λ b. b.queue) all.files) (all.declared) (ss))) (k, f, n) e) [
          | inr x ↦ absurd (let y = x.2 in cc)
          | inl x ↦
              let u = scripts_stops (names_of all.declared) all.files [] 0 k f n x in
              let v = u.1 in
              let same : u.0 ≡ f = omega (arith, u.2) in
              let names : names_of all.declared ≡ names_of (all_tasks t.trees) = ap names_of t.declared_is in
              let s = tree_at t.trees u.0 v.body (ap (λ (bs : List Body). slice_get bs u.0) (sym t.bodies_are) ∙ v.is) in
              let before = subst (λ (bs : List Body). AllByRecursion (λ (b : Body). AreKnown (names_of all.declared) b.happenings) bs) (ap (take u.0) t.bodies_are ∙ take-map body_of_tree u.0 t.trees) v.before in
              let first = subst (λ (b : Body). position_from (is_unknown (names_of all.declared)) b.first b.happenings ≡ Some n) (sym s.2) v.first in (
                v.kind,
                subst (λ (i : ℕ). UnknownFault files i n) same (record {
                  trees = t.trees;
                  texts = t.texts;
                  together = t.trees_are;
                  tree = s.0;
                  is = s.1;
                  before = subst (λ (ns : List (List ℕ)). AllByRecursion (λ (t : Tree). AreKnown ns t.happenings) (take u.0 t.trees)) names (known_bodies (names_of all.declared) (take u.0 t.trees) before);
                  first = subst (λ (ns : List (List ℕ)). position_from (is_unknown ns) (3 + length s.0.tasks) s.0.happenings ≡ Some n) names first;
                }),
              )
        ]
