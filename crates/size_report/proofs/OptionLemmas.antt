-- What each word of an option comes to.
use Rattle.std.proofs.Common.{◌≡◌, ℕ, ◌+◌, ◌<◌, true, ◌||◌, List, [], ◌∷◌, map, length, drop, get_or, if◌then◌else◌, ◌++◌, false, Option, Some, None, Result, Err, Bor, refl, sym, ap, ◌∙◌, suc, ⊎_elim, slice_set, option_map}
use Rattle.std.specs.Option.{option_map_or}
use Rattle.std.proofs.lemmas.List.{at_drop_more, map-append}
use Rattle.std.proofs.lemmas.Bool.{cases_Bool, cond-true, cond-false}
use Rattle.std.specs.List.{list_any}
use Rattle.std.specs.Str.{bytes_eq}
use Rattle.trace_fields.specs.Words.{text_of}
use Rattle.size_report.specs.Options.{Asked, Fault, asked_in, asked_task, fault, given_by, given_to, has_name, tasks_on, withins_on}
use Rattle.size_report.specs.declared.options.AskedTask.{AskedTask}
use Rattle.size_report.specs.declared.options.FaultKind.TheVariants as kind
use Rattle.size_report.specs.inside.Texts.{first_waiting, is_named, is_waiting_task}

-- a name among tasks, as the code looks for it
same_names : (name : List ℕ) (tasks : List AskedTask) → list_any (is_named name) tasks ≡ has_name name (map asked_task tasks)
same_names name [] = refl
same_names name (task ∷ tasks) = ap (λ b. bytes_eq task.name.now name || b) (same_names name tasks)

-- what a word comes to that says this task, before these words
told : Asked → List Asked → List (Bor (List ℕ)) → Result (List Asked) Fault
told task tasks words = if has_name task.name tasks then Err (fault kind.Twice task.name) else tasks_on (tasks ++ task ∷ []) (map text_of words)

next_word : (tasks : List Asked) (words : List (Bor (List ℕ))) (i : ℕ) (d : Bor (List ℕ)) → i < length words
    → tasks_on tasks (map text_of (drop i words)) ≡ option_map_or (λ task. told task tasks (drop (i + 1) words)) (asked_in (get_or words i d).now) (Err (fault kind.Task (get_or words i d).now))
unfolding told
next_word tasks words i d lt = at_drop_more (λ ws. tasks_on tasks (map text_of ws)) words i d lt

task_said : (tasks : List Asked) (words : List (Bor (List ℕ))) (i : ℕ) (d : Bor (List ℕ)) (said : Option Asked) → i < length words → said ≡ asked_in (get_or words i d).now
    → tasks_on tasks (map text_of (drop i words)) ≡ option_map_or (λ task. told task tasks (drop (i + 1) words)) said (Err (fault kind.Task (get_or words i d).now))
task_said tasks words i d said lt is =
    next_word tasks words i d lt
    ∙ ap (λ s. option_map_or (λ task. told task tasks (drop (i + 1) words)) s (Err (fault kind.Task (get_or words i d).now))) (sym is)

-- it says no task
pub none_said : (given : List AskedTask) (words : List (Bor (List ℕ))) (i : ℕ) (d : Bor (List ℕ)) → i < length words → None ≡ asked_in (get_or words i d).now
    → tasks_on (map asked_task given) (map text_of (drop i words)) ≡ Err (fault kind.Task (get_or words i d).now)
none_said given words i d lt is = task_said (map asked_task given) words i d None lt is

-- its name came before
pub second_time : (given : List AskedTask) (words : List (Bor (List ℕ))) (i : ℕ) (d : Bor (List ℕ)) (task : AskedTask) → i < length words → Some (asked_task task) ≡ asked_in (get_or words i d).now
    → list_any (is_named task.name.now) given ≡ true → tasks_on (map asked_task given) (map text_of (drop i words)) ≡ Err (fault kind.Twice task.name.now)
unfolding told
second_time given words i d task lt is before =
    task_said (map asked_task given) words i d (Some (asked_task task)) lt is ∙ cond-true _ _ _ (sym (same_names task.name.now given) ∙ before)

-- its name is new
pub first_time : (given : List AskedTask) (words : List (Bor (List ℕ))) (i : ℕ) (d : Bor (List ℕ)) (task : AskedTask) → i < length words → Some (asked_task task) ≡ asked_in (get_or words i d).now
    → list_any (is_named task.name.now) given ≡ false → tasks_on (map asked_task given) (map text_of (drop i words)) ≡ tasks_on (map asked_task (given ++ task ∷ [])) (map text_of (drop (i + 1) words))
unfolding told
first_time given words i d task lt is new =
    task_said (map asked_task given) words i d (Some (asked_task task)) lt is ∙ cond-false _ _ _ (sym (same_names task.name.now given) ∙ new)
    ∙ ap (λ ts. tasks_on ts (map text_of (drop (i + 1) words))) (sym (map-append asked_task given (task ∷ [])))

-- what one word of a time comes to
pub next_within : (tasks : List Asked) (words : List (Bor (List ℕ))) (i : ℕ) (d : Bor (List ℕ)) (given : Option (List Asked)) → i < length words → given_by (get_or words i d).now tasks ≡ given
    → withins_on tasks (map text_of (drop i words)) ≡ option_map_or (λ them. withins_on them (map text_of (drop (i + 1) words))) given (Err (fault kind.Within (get_or words i d).now))
next_within tasks words i d given lt is =
    at_drop_more (λ ws. withins_on tasks (map text_of ws)) words i d lt
    ∙ ap (λ g. option_map_or (λ them. withins_on them (map text_of (drop (i + 1) words))) g (Err (fault kind.Within (get_or words i d).now))) is

timed : ℕ → AskedTask → AskedTask
timed n task = record task { within = Some n }

-- the tasks after the one at this place was given a time
set_at : ℕ → List AskedTask → AskedTask → ℕ → List Asked
set_at n tasks d i = map asked_task (slice_set tasks i (timed n (get_or tasks i d)))

shifted : (n : ℕ) (task : AskedTask) (tasks : List AskedTask) (d : AskedTask) (place : Option ℕ)
    → option_map (λ rest. asked_task task ∷ rest) (option_map (set_at n tasks d) place) ≡ option_map (set_at n (task ∷ tasks) d) (option_map (λ i. suc i) place)
unfolding set_at timed
shifted n task tasks d None = refl
shifted n task tasks d (Some i) = refl

placed : (name : List ℕ) (n : ℕ) (tasks : List AskedTask) (d : AskedTask) → given_to name n (map asked_task tasks) ≡ option_map (set_at n tasks d) (first_waiting name tasks)
unfolding set_at timed
placed name n [] d = refl
placed name n (task ∷ tasks) d =
    ⊎_elim
    (λ yes. cond-true _ _ _ yes ∙ sym (ap (option_map (set_at n (task ∷ tasks) d)) (cond-true _ _ _ yes)))
    (λ no. cond-false _ _ _ no ∙ ap (option_map (λ rest. asked_task task ∷ rest)) (placed name n tasks d) ∙ shifted n task tasks d (first_waiting name tasks) ∙ sym (ap (option_map (set_at n (task ∷ tasks) d)) (cond-false _ _ _ no)))
    (cases_Bool (is_waiting_task name task))

-- a task that waits is given its time
pub given_at : (name : List ℕ) (n : ℕ) (tasks : List AskedTask) (d : AskedTask) (i : ℕ) → Some i ≡ first_waiting name tasks
    → given_to name n (map asked_task tasks) ≡ Some (map asked_task (slice_set tasks i (record (get_or tasks i d) { within = Some n })))
unfolding set_at timed
given_at name n tasks d i is = placed name n tasks d ∙ ap (option_map (set_at n tasks d)) (sym is)

-- no task waits
pub none_waits : (name : List ℕ) (n : ℕ) (tasks : List AskedTask) (d : AskedTask) → None ≡ first_waiting name tasks → given_to name n (map asked_task tasks) ≡ None
none_waits name n tasks d is = placed name n tasks d ∙ ap (option_map (set_at n tasks d)) (sym is)
