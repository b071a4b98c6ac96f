-- The texts of reports, one more at the end.
use Rattle.std.proofs.Common.{◌≡◌, ℕ, zero, suc, ◌+◌, List, [], ◌∷◌, ◌++◌, length, ap, ◌∙◌, sym, append_assoc, append-nil, add-zero, arith, take, get_or, refl, ◌<◌, ◌≤◌, map, subst}
use Rattle.std.proofs.lemmas.List.{take_more, length-map, length-take-le}
use Rattle.grub_book.specs.declared.event.Reading.{Reading}
use Rattle.grub_plan.specs.Texts.{report_text}
use Rattle.grub_plan.specs.declared.entry.Report.{Report}
use Rattle.grub_trace.specs.Meaning.{Reads}
use Rattle.grub_trace.specs.Naming.{all_tasks, plan_of, script_of}
use Rattle.grub_plan.specs.Plans.{PlanView}
use Rattle.grub_trace.specs.Tree.{Tree, names_of, text as tree_text}
use Rattle.grub_workers.specs.Apart.{AllApart, AreOwn}
use Rattle.grub_workers.specs.Runs.{IsOnlyRun, IsRun, entries_of}
use Rattle.grub_run.specs.Written.{IsFaultOf, IsNoFileFault, IsOnlyText, IsOutput, texts_from}
use Rattle.grub_run.specs.inside.Ran.{IsFaultOfRun, IsRunText}
use Rattle.grub_run.specs.declared.grub_fault.GrubFault.{GrubFault}
use Rattle.grub_run.specs.declared.grub_fault.GrubFault.TheVariants as faults

pub texts_push : (names : List (List ℕ)) (r : ℕ) (xs : List Report) (cs : List Reading) (x : Report) (c : Reading) → length xs ≡ length cs
    → texts_from names r (xs ++ x ∷ []) (cs ++ c ∷ []) ≡ texts_from names r xs cs ++ report_text names (r + length xs) x.entries.items c
texts_push names r [] [] x c e =
    ap (λ n. report_text names n x.entries.items c ++ []) (sym (add-zero r)) ∙ append-nil _
texts_push names r [] (c' ∷ cs) x c e = absurd (omega arith)
texts_push names r (x' ∷ xs) [] x c e = absurd (omega arith)
texts_push names r (x' ∷ xs) (c' ∷ cs) x c e =
    let same : (r + 1) + length xs ≡ r + suc (length xs) = omega arith in
    ap (λ t. report_text names r x'.entries.items c' ++ t) (texts_push names (r + 1) xs cs x c (omega arith) ∙ ap (λ n. texts_from names (r + 1) xs cs ++ report_text names n x.entries.items c) same)
    ∙ sym (append_assoc (report_text names r x'.entries.items c') (texts_from names (r + 1) xs cs) (report_text names (r + suc (length xs)) x.entries.items c))

-- the text after one report more
pub texts_next : (names : List (List ℕ)) (xs : List Report) (cs : List Reading) (r : ℕ) (x : Report) (c : Reading) → length xs ≡ length cs → r < length xs → get_or xs r x ≡ x → get_or cs r c ≡ c
    → texts_from names 0 (take r xs) (take r cs) ++ report_text names r x.entries.items c ≡ texts_from names 0 (take (r + 1) xs) (take (r + 1) cs)
texts_next names xs cs r x c same below x_is c_is =
    let len : length (take r xs) ≡ r = length-take-le r xs (omega arith) in
    let lens : length (take r xs) ≡ length (take r cs) = len ∙ sym (length-take-le r cs (omega arith)) in
    let more_xs : take (r + 1) xs ≡ take r xs ++ x ∷ [] = take_more xs r x below ∙ ap (λ y. take r xs ++ y ∷ []) x_is in
    let more_cs : take (r + 1) cs ≡ take r cs ++ c ∷ [] = take_more cs r c (omega arith) ∙ ap (λ y. take r cs ++ y ∷ []) c_is in
    let at : 0 + length (take r xs) ≡ r = omega arith in
    rw (more_xs, more_cs, texts_push names 0 (take r xs) (take r cs) x c lens, at) refl

-- the texts of the first reports are a beginning of all
pub texts_front : (names : List (List ℕ)) (r n : ℕ) (xs : List Report) (cs : List Reading) → (rest : List ℕ) × (texts_from names r xs cs ≡ texts_from names r (take n xs) (take n cs) ++ rest)
texts_front names r zero xs cs = (texts_from names r xs cs, refl)
texts_front names r (suc n) [] cs = ([], refl)
texts_front names r (suc n) (x ∷ xs) [] = ([], refl)
texts_front names r (suc n) (x ∷ xs) (c ∷ cs) =
    let more = texts_front names (r + 1) n xs cs in
    let here = report_text names r x.entries.items c in
    (more.0, ap (λ t. here ++ t) more.1 ∙ sym (append_assoc here (texts_from names (r + 1) (take n xs) (take n cs)) more.0))

-- the texts so far and the next report are a beginning of all
pub texts_before : (names : List (List ℕ)) (xs : List Report) (cs : List Reading) (r : ℕ) (x : Report) (c : Reading) → length xs ≡ length cs → r < length xs → get_or xs r x ≡ x → get_or cs r c ≡ c
    → (rest : List ℕ) × (texts_from names 0 xs cs ≡ (texts_from names 0 (take r xs) (take r cs) ++ report_text names r x.entries.items c) ++ rest)
texts_before names xs cs r x c same below x_is c_is =
    let more = texts_front names 0 (r + 1) xs cs in
    (more.0, more.1 ∙ ap (λ t. t ++ more.0) (sym (texts_next names xs cs r x c same below x_is c_is)))

-- reports with the same entries have one text
texts_same : (names : List (List ℕ)) (r : ℕ) (xs ys : List Report) (cs : List Reading) → map entries_of xs ≡ map entries_of ys → texts_from names r xs cs ≡ texts_from names r ys cs
texts_same names r [] [] cs e = refl
texts_same names r [] (y ∷ ys) cs e = cc
texts_same names r (x ∷ xs) [] cs e = cc
texts_same names r (x ∷ xs) (y ∷ ys) [] e = refl
texts_same names r (x ∷ xs) (y ∷ ys) (c ∷ cs) e =
    let first : entries_of x ≡ entries_of y = cc in
    let rest : map entries_of xs ≡ map entries_of ys = cc in
    rw (first, texts_same names (r + 1) xs ys cs rest) refl

-- where a run of the plan gives one outcome alone, it has one text alone
pub only_text : (files : List (List ℕ)) (plan : PlanView) (reports : List Report) (closing : List Reading) (text : List ℕ)
    → ((trees : List Tree) → Reads files trees → plan ≡ plan_of trees) → IsOnlyRun plan reports closing → text ≡ texts_from plan.names 0 reports closing → IsOnlyText files text
only_text files plan reports closing text every only whole = λ tries other some is.
    let same : plan ≡ plan_of is.trees = every is.trees is.read in
    let run : IsRun plan tries is.reports is.closing = subst (λ p. IsRun p tries is.reports is.closing) (sym same) is.run in
    let outcome = only tries is.reports is.closing some run in
    let names : (plan_of is.trees).names ≡ plan.names = ap (λ p. p.names) (sym same) in
    is.whole ∙ ap (λ ns. texts_from ns 0 is.reports is.closing) names ∙ texts_same plan.names 0 is.reports reports is.closing outcome.0
    ∙ ap (λ cs. texts_from plan.names 0 reports cs) outcome.1 ∙ sym whole

-- a plan has a script for each file
one_script_each : (files : List (List ℕ)) (trees : List Tree) → Reads files trees → length (plan_of trees).scripts ≡ length files
one_script_each files trees read =
    length-map trees (script_of (names_of (all_tasks trees))) ∙ sym (length-map trees tree_text) ∙ ap length (sym read.texts)

-- the text of the reports of a run of the plan of these files
pub output_of : (tries : ℕ) (files : List (List ℕ)) (plan : PlanView) (reports : List Report) (closing : List Reading) (text : List ℕ)
    → (trees : List Tree) → Reads files trees → plan ≡ plan_of trees → ((others : List Tree) → Reads files others → plan ≡ plan_of others)
    → IsRun plan tries reports closing → (length plan.scripts ≡ 1 → 1 ≤ tries → IsOnlyRun plan reports closing) → (1 ≤ tries → AreOwn plan reports closing)
    → text ≡ texts_from plan.names 0 reports closing → IsOutput tries files text
output_of tries files plan reports closing text trees read is every run only own whole = record {
  is = record {
    trees = trees;
    read = read;
    reports = reports;
    closing = closing;
    run = subst (λ p. IsRun p tries reports closing) is run;
    whole = whole ∙ ap (λ p. texts_from p.names 0 reports closing) is;
  };
  only = λ one some.
      let alone : length plan.scripts ≡ 1 = ap (λ p. length p.scripts) is ∙ one_script_each files trees read ∙ one in
      only_text files plan reports closing text every (only alone some) whole;
  apart = λ apart some. only_text files plan reports closing text every ((own some).whole (subst AllApart (sym is) (apart trees read))) whole;
}

-- and where that text is told by the run alone
pub output_of_run : (tries : ℕ) (files : List (List ℕ)) (plan : PlanView) (text : List ℕ)
    → (trees : List Tree) → Reads files trees → plan ≡ plan_of trees → ((others : List Tree) → Reads files others → plan ≡ plan_of others)
    → IsRunText plan tries text → IsOutput tries files text
output_of_run tries files plan text trees read is every x = output_of tries files plan x.reports x.closing text trees read is every x.run x.same x.apart x.whole

-- no fault of a run is one of its files
pub fault_of_run : (files : List (List ℕ)) (fault : GrubFault) → IsFaultOfRun fault → IsFaultOf files fault
fault_of_run files (faults.Trace fault) none = absurd none
fault_of_run files (faults.Run fault) none = tt
fault_of_run files (faults.Text fault) none = tt
fault_of_run files faults.WriteFault none = tt

pub no_file_fault : (fault : GrubFault) → IsFaultOfRun fault → IsNoFileFault fault
no_file_fault (faults.Trace fault) none = absurd none
no_file_fault (faults.Run fault) none = tt
no_file_fault (faults.Text fault) none = tt
no_file_fault faults.WriteFault none = tt
