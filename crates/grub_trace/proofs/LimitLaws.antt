-- The plan of trees keeps the limits.
use Rattle.std.proofs.Common.{◌≡◌, ℕ, ◌+◌, ◌<◌, ◌≤◌, Bool, true, false, cond, List, [], ◌∷◌, ◌++◌, length, map, Option, Some, None, option_map, refl, ap, ◌∙◌, sym, arith, subst}
use Rattle.std.proofs.lemmas.Option.{same_Some}
use Rattle.std.specs.Prelude.{IsSome, Ok}
use Rattle.grub_book.specs.declared.server.TheConstants.{MOMENT_MAX}
use Rattle.grub_book.specs.declared.op.TheConstants.{RUN_MAX}
use Rattle.grub_trace.specs.inside.Reading.{plan_from}
use Rattle.grub_trace.proofs.PlanLaws.{plan_read}
use Rattle.std.specs.Str.{bytes_eq}
use Rattle.std.specs.List.{AllByRecursion, filter_map, cons_option}
use Rattle.std.proofs.lemmas.List.{length-append, length-map}
use Rattle.std.proofs.lemmas.List.Elements.{All-from_recursion, All-get_or}
use Rattle.grub_book.specs.Bandwidth.{IsReservation, IsCapacity}
use Rattle.std.proofs.lemmas.Bool.Decides.{nat_tests}
use Rattle.grub_trace.specs.declared.version.Version.{Version}
use Rattle.grub_plan.specs.declared.line.Act.{Act}
use Rattle.grub_plan.specs.declared.line.Act.TheVariants as act
use Rattle.grub_plan.specs.Names.{is_name}
use Rattle.grub_trace.specs.Tree.{Declaration, Happening, Tree, names_of, is_span, is_moment, text}
use Rattle.grub_trace.specs.inside.Tree.{params_of}
use Rattle.grub_plan.specs.Plans.{Line, PlanView}
use Rattle.grub_trace.specs.Naming.{task_of, line_in, act_in, script_of, all_tasks, plan_of}
use Rattle.grub_trace.specs.Meaning.{GoOn, IsAct, AreKnown, Reads, AreDeclared, AreTrees}
use Rattle.grub_plan.specs.Limits.{ActFits, ScriptFits, PlanFits}

place_below : (names : List (List ℕ)) (n : List ℕ) (t : ℕ) → task_of names n ≡ Some t → t < length names
place_below [] n t e = absurd cc
place_below (x ∷ xs) n t e = go (bytes_eq x n) (task_of xs n) (λ i h. place_below xs n i h) e
  where
    go : (b : Bool) (o : Option ℕ) → ((i : ℕ) → o ≡ Some i → i < length xs) → cond b (Some 0) (option_map (λ i. i + 1) o) ≡ Some t → t < length (x ∷ xs)
    go true o h e = let p = same_Some 0 t e in omega arith
    go false None h e = absurd cc
    go false (Some i) h e = let p = same_Some (i + 1) t e in omega (arith, h i refl)

mapped : {A : Type 0} (f : ℕ → A) (o : Option ℕ) (a : A) → option_map f o ≡ Some a → (t : ℕ) × (o ≡ Some t) × (f t ≡ a)
mapped f None a e = absurd cc
mapped f (Some t) a e = (t, refl, cc)

span_is : (d : ℕ) → is_span d ≡ true → (1 ≤ d) × (d ≤ RUN_MAX)
span_is d h = (grind (arith, nat_tests), grind (arith, nat_tests))

moment_is : (m : ℕ) → is_moment m ≡ true → m ≤ MOMENT_MAX
moment_is m h = grind (arith, nat_tests)

act_fits : (version : Version) (names : List (List ℕ)) (said : Act (List ℕ) ℕ) (a : Act ℕ ℕ) → IsAct version said → act_in names said ≡ Some a → ActFits (length names) a
act_fits version names (act.Join n) a is e = let m = mapped act.Join (task_of names n) a e in subst (ActFits (length names)) m.2 (place_below names n m.0 m.1)
act_fits version names (act.Wake n) a is e = let m = mapped act.Wake (task_of names n) a e in subst (ActFits (length names)) m.2 (place_below names n m.0 m.1)
act_fits version names (act.Block n) a is e = let m = mapped act.Block (task_of names n) a e in subst (ActFits (length names)) m.2 (place_below names n m.0 m.1)
act_fits version names (act.Leave n) a is e = let m = mapped act.Leave (task_of names n) a e in subst (ActFits (length names)) m.2 (place_below names n m.0 m.1)
act_fits version names (act.Exit n) a is e = let m = mapped act.Exit (task_of names n) a e in subst (ActFits (length names)) m.2 (place_below names n m.0 m.1)
act_fits version names (act.Run n s) a is e = let m = mapped (λ t. act.Run t s) (task_of names n) a e in subst (ActFits (length names)) m.2 (let s = span_is s is.1 in (place_below names n m.0 m.1, s.0, s.1))
act_fits version names (act.Retune n q p) a is e = let m = mapped (λ t. act.Retune t q p) (task_of names n) a e in subst (ActFits (length names)) m.2 (place_below names n m.0 m.1, is.1)
act_fits version names act.Read a is e = let h : act.Read ≡ a = cc in subst (ActFits (length names)) h tt

abbrev at_moment : Happening → Act ℕ ℕ → Line
at_moment h a = record { m = h.m; act = a }

script_fits : (version : Version) (names : List (List ℕ)) (ms : List Happening) (low : ℕ) → GoOn version low ms → AreKnown names ms → ScriptFits (length names) low (filter_map (line_in names) ms)
script_fits version names [] low on known = tt
script_fits version names (m ∷ ms) low on known = go (act_in names m.act) refl known.0 (script_fits version names ms m.m on.1 known.1)
  where
    go : (o : Option (Act ℕ ℕ)) → act_in names m.act ≡ o → IsSome (option_map (at_moment m) o) → ScriptFits (length names) m.m (filter_map (line_in names) ms) → ScriptFits (length names) low (cons_option (option_map (at_moment m) o) (filter_map (line_in names) ms))
    go None e some rest = absurd cc
    go (Some a) e some rest = (on.0.after, moment_is m.m on.0.within, act_fits version names m.act a on.0.act e, rest)

few_declared : (ds : List Declaration) (names : List (List ℕ)) → length names ≤ 256 → AreDeclared names ds → length names + length ds ≤ 256
few_declared [] names few are = omega arith
few_declared (d ∷ ds) names few are = let more = length-append names (d.name ∷ []) in omega (arith, are.0.few, few_declared ds (names ++ d.name ∷ []) (omega (arith, are.0.few)) are.1)

declared_fit : (ds : List Declaration) (names : List (List ℕ)) → AreDeclared names ds → AllByRecursion IsReservation (params_of ds)
declared_fit [] names are = tt
declared_fit (d ∷ ds) names are = (are.0.fits, declared_fit ds (names ++ d.name ∷ []) are.1)

all_of : {X : Type 0} (P : X → Type 0) (f : Declaration → X) (ds es : List Declaration) → AllByRecursion P (map f ds) → AllByRecursion P (map f es) → AllByRecursion P (map f (ds ++ es))
all_of P f [] es h k = k
all_of P f (d ∷ ds) es h k = (h.0, all_of P f ds es h.1 k)

few_tasks : (ts : List Tree) (names : List (List ℕ)) → length names ≤ 256 → AreTrees names ts → length names + length (all_tasks ts) ≤ 256
few_tasks [] names few are = omega arith
few_tasks (t ∷ ts) names few are =
    let here = few_declared t.tasks names few are.0.tasks in
    let more = length-append names (names_of t.tasks) in
    let same = length-map t.tasks (λ (d : Declaration). d.name) in
    omega (arith, few_tasks ts (names ++ names_of t.tasks) (omega arith) are.1, length-append t.tasks (all_tasks ts))

names_are : (ds : List Declaration) (names : List (List ℕ)) → AreDeclared names ds → AllByRecursion (λ (n : List ℕ). is_name n ≡ true) (names_of ds)
names_are [] names are = tt
names_are (d ∷ ds) names are = (are.0.name, names_are ds (names ++ d.name ∷ []) are.1)

names_fit : (ts : List Tree) (names : List (List ℕ)) → AreTrees names ts → AllByRecursion (λ (n : List ℕ). is_name n ≡ true) (names_of (all_tasks ts))
names_fit [] names are = tt
names_fit (t ∷ ts) names are = all_of (λ n. is_name n ≡ true) (λ d. d.name) t.tasks (all_tasks ts) (names_are t.tasks names are.0.tasks) (names_fit ts (names ++ names_of t.tasks) are.1)

tasks_fit : (ts : List Tree) (names : List (List ℕ)) → AreTrees names ts → AllByRecursion IsReservation (params_of (all_tasks ts))
tasks_fit [] names are = tt
tasks_fit (t ∷ ts) names are = all_of IsReservation (λ d. d.params) t.tasks (all_tasks ts) (declared_fit t.tasks names are.0.tasks) (tasks_fit ts (names ++ names_of t.tasks) are.1)

queues_fit : (ts : List Tree) (names : List (List ℕ)) → AreTrees names ts → AllByRecursion IsCapacity (map (λ (t : Tree). t.queue) ts)
queues_fit [] names are = tt
queues_fit (t ∷ ts) names are = (are.0.queue, queues_fit ts (names ++ names_of t.tasks) are.1)

scripts_fit : (all : List (List ℕ)) (ts : List Tree) (names : List (List ℕ)) → AreTrees names ts → AllByRecursion (λ (t : Tree). AreKnown all t.happenings) ts → AllByRecursion (ScriptFits (length all) 0) (map (script_of all) ts)
scripts_fit all [] names are known = tt
scripts_fit all (t ∷ ts) names are known = (script_fits t.version all t.happenings 0 are.0.happenings known.0, scripts_fit all ts (names ++ names_of t.tasks) are.1 known.1)

pub plan_fits : (files : List (List ℕ)) (ts : List Tree) → Reads files ts → PlanFits (plan_of ts)
plan_fits files ts is =
    let tasks = all_tasks ts in
    let all = names_of tasks in
    let count : length files ≡ length ts = ap length is.texts ∙ length-map ts text in
    let scripts : length (map (script_of all) ts) ≡ length ts = length-map ts (script_of all) in
    let queues : length (map (λ (t : Tree). t.queue) ts) ≡ length ts = length-map ts (λ (t : Tree). t.queue) in
    let named : length all ≡ length tasks = length-map tasks (λ (d : Declaration). d.name) in
    let reserved : length (params_of tasks) ≡ length tasks = length-map tasks (λ (d : Declaration). d.params) in
    record {
      setup = record {
        queues_some = omega (arith, is.some);
        queues_most = omega (arith, is.few);
        tasks_most = omega (arith, few_tasks ts [] (omega arith) is.together);
        capacities = λ r there. All-get_or IsCapacity (map (λ (t : Tree). t.queue) ts) r _ there (All-from_recursion IsCapacity _ (queues_fit ts [] is.together));
        reservations = λ t there. All-get_or IsReservation (params_of tasks) t _ there (All-from_recursion IsReservation _ (tasks_fit ts [] is.together));
      };
      each = scripts ∙ sym queues;
      named = named ∙ sym reserved;
      names = names_fit ts [] is.together;
      scripts = subst (λ (n : ℕ). AllByRecursion (ScriptFits n 0) (map (script_of all) ts)) (named ∙ sym reserved) (scripts_fit all ts [] is.together is.known);
    }

pub plan_from_fits : (files : List (List ℕ)) (p : PlanView) → plan_from files ≡ Ok p → PlanFits p
plan_from_fits files p e = let h = plan_read files p e in subst PlanFits (sym h.2) (plan_fits files h.0 h.1)
