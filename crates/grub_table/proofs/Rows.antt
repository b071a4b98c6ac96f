-- The row of words, as a word and what is known of a task change.
use Rattle.std.proofs.Common.{◌≡◌, ◌≢◌, ℕ, ◌+◌, ◌<◌, cond, eqb, List, length, set, get_or, slice_index, sym, refl, ap, ◌∙◌, subst, arith, length-set, get_or-set_other, get_or-set_same, eq-eqb, ne_eqb}
use mathlib.Core.Logic.{dite}
use native.Mathlib.Decide.{ℕ_discrete}
use Rattle.grub_book.specs.Machine.{Machine}
use Rattle.grub_book.specs.Sums.{Records, record_at, reading_of}
use Rattle.grub_book.specs.declared.place.Record.{Record}
use Rattle.grub_table.specs.Words.{queue_word}
use Rattle.grub_table.specs.declared.view.Stored.{Stored}
use Rattle.grub_table.specs.declared.view.Terms.{Terms}
use Rattle.grub_table.specs.Layout.{queue_word_at, task_word_at}
use Rattle.grub_table.specs.inside.Layout.{word_count, server_word_at, params_word_at}
use Rattle.grub_table.specs.inside.Rule.{Grip, Grips, loose, grip, IsOnly, TaskShows, Written}

-- ---- grips
pub put : Grips → ℕ → Grip → Grips
put grips t g u = cond (eqb u t) g (grips u)

pub put_here : (grips : Grips) (t : ℕ) (g : Grip) → put grips t g t ≡ g
unfolding put
put_here grips t g = ap (λ b. cond b g (grips t)) (eq-eqb t t refl)

pub put_else : (grips : Grips) (t : ℕ) (g : Grip) (u : ℕ) → u ≢ t → put grips t g u ≡ grips u
unfolding put
put_else grips t g u other = ap (λ b. cond b g (grips u)) (ne_eqb u t other)

before_in : Record → Grip → Record
before_in x loose = x
before_in x (grip i before stored) = before

pub same_before : (i j : ℕ) (a b : Record) (m n : Stored) → grip i a m ≡ grip j b n → a ≡ b
unfolding before_in
same_before i j a b m n e = ap (before_in a) e

pub is_loose_not : {i : ℕ} {x : Record} {m : Stored} → loose ≡ grip i x m → ⊥
is_loose_not e = cc

-- the pass holds no other task, also where what is known of this one changes
pub only_put : (grips : Grips) (t : ℕ) (g : Grip) (i : ℕ) → IsOnly grips i t → IsOnly (put grips t g) i t
only_put grips t g i only u before stored is = dite (ℕ_discrete u t) (λ same. same) (λ other. only u before stored (sym (put_else grips t g u other) ∙ is))

-- ---- words of tasks
-- the word j is one of the words of the task t
abbrev pub IsWordOf : Machine → ℕ → ℕ → Type 0
IsWordOf s t j = (k : ℕ) × (k < 3) × (j ≡ task_word_at s t + k)

-- the words of a task
pub record Words : Type 0 where
  pub task : ℕ
  pub server : ℕ
  pub params : ℕ

abbrev pub words_of : Machine → List ℕ → ℕ → Words
words_of s words t = record { task = slice_index words (task_word_at s t); server = slice_index words (server_word_at s t); params = slice_index words (params_word_at s t) }

abbrev pub Shows : Grip → Record → Words → Type 0
Shows g x w = TaskShows g x w.task w.server w.params

module _ (s : Machine) (words : List ℕ) (t n : ℕ) (long : length words ≡ word_count s) (lt : t < length s.tasks) where
  pub set_task : words_of s (set words (task_word_at s t) n) t ≡ record { task = n; server = slice_index words (server_word_at s t); params = slice_index words (params_word_at s t) }
  set_task =
      let j : ℕ = task_word_at s t in
      let a = get_or-set_same words j n 0 (omega arith) in
      let b = get_or-set_other words j (server_word_at s t) n 0 (λ e. omega arith) in
      let c = get_or-set_other words j (params_word_at s t) n 0 (λ e. omega arith) in
      (λ i. record { task = a i; server = b i; params = c i })

  pub set_server : words_of s (set words (server_word_at s t) n) t ≡ record { task = slice_index words (task_word_at s t); server = n; params = slice_index words (params_word_at s t) }
  set_server =
      let j : ℕ = server_word_at s t in
      let a = get_or-set_other words j (task_word_at s t) n 0 (λ e. omega arith) in
      let b = get_or-set_same words j n 0 (omega arith) in
      let c = get_or-set_other words j (params_word_at s t) n 0 (λ e. omega arith) in
      (λ i. record { task = a i; server = b i; params = c i })

  pub set_params : words_of s (set words (params_word_at s t) n) t ≡ record { task = slice_index words (task_word_at s t); server = slice_index words (server_word_at s t); params = n }
  set_params =
      let j : ℕ = params_word_at s t in
      let a = get_or-set_other words j (task_word_at s t) n 0 (λ e. omega arith) in
      let b = get_or-set_other words j (server_word_at s t) n 0 (λ e. omega arith) in
      let c = get_or-set_same words j n 0 (omega arith) in
      (λ i. record { task = a i; server = b i; params = c i })

-- a word of another task, or of a runqueue, leaves the words of a task
set_else : (s : Machine) (words : List ℕ) (u j n : ℕ) → task_word_at s u ≢ j → server_word_at s u ≢ j → params_word_at s u ≢ j → words_of s (set words j n) u ≡ words_of s words u
set_else s words u j n a b c =
    let p = get_or-set_other words j (task_word_at s u) n 0 a in
    let q = get_or-set_other words j (server_word_at s u) n 0 b in
    let r = get_or-set_other words j (params_word_at s u) n 0 c in
    (λ i. record { task = p i; server = q i; params = r i })

shows_as : (g g' : Grip) (x x' : Record) (w w' : Words) → g ≡ g' → x ≡ x' → w ≡ w' → Shows g x w → Shows g' x' w'
shows_as g g' x x' w w' gs xs ws h = subst (λ (p : Grip × Record × Words). Shows p.0 p.1 p.2) (λ i. (gs i, xs i, ws i)) h

-- what a held task's words show does not hang on its record
pub shows_held : (g : Grip) (i : ℕ) (before x y : Record) (stored : Stored) (w : Words) → g ≡ grip i before stored → Shows g x w → Shows g y w
shows_held g i before x y stored w is h = subst (λ f. Shows f y w) (sym is) (subst (λ f. Shows f x w) is h)

module _ (T : Terms) (book book' : Records) (grips grips' : Grips) (words : List ℕ) (t : ℕ) (w : Written T book grips words) (else : (u : ℕ) → u ≢ t → grips' u ≡ grips u) (records : (u : ℕ) → u ≢ t → record_at book' u ≡ record_at book u) where
  others : (u j n : ℕ) → u < length T.setup.tasks → u ≢ t → task_word_at T.setup u ≢ j → server_word_at T.setup u ≢ j → params_word_at T.setup u ≢ j → Shows (grips' u) (record_at book' u) (words_of T.setup (set words j n) u)
  others u j n less other a b c =
      shows_as (grips u) (grips' u) (record_at book u) (record_at book' u) (words_of T.setup words u) (words_of T.setup (set words j n) u) (sym (else u other)) (sym (records u other)) (sym (set_else T.setup words u j n a b c)) (w.tasks u less)

  at_task : (j n : ℕ) → Shows (grips' t) (record_at book' t) (words_of T.setup (set words j n) t) → (u : ℕ) → u ≡ t → Shows (grips' u) (record_at book' u) (words_of T.setup (set words j n) u)
  at_task j n mine u is = subst (λ v. Shows (grips' v) (record_at book' v) (words_of T.setup (set words j n) v)) (sym is) mine

  -- a word of the task changes, and no reading
  pub written_task : (j n : ℕ) → IsWordOf T.setup t j → ((r : ℕ) → r < length T.setup.queues → reading_of book' r ≡ reading_of book r) → Shows (grips' t) (record_at book' t) (words_of T.setup (set words j n) t) → Written T book' grips' (set words j n)
  written_task j n of readings mine = record {
    long = length-set words j n ∙ w.long;
    queues = λ r lt. let at = of.2 in let small = of.1 in get_or-set_other words j (queue_word_at r) n 0 (λ e. omega arith) ∙ w.queues r lt ∙ ap queue_word (sym (readings r lt));
    tasks = λ u lt. dite (ℕ_discrete u t) (at_task j n mine u)
        (λ other. let at = of.2 in let small = of.1 in others u j n lt other (λ e. other (omega arith)) (λ e. other (omega arith)) (λ e. other (omega arith)));
  }

  -- a runqueue's word becomes that of its new reading
  pub written_queue : (r n : ℕ) → r < length T.setup.queues → n ≡ queue_word (reading_of book' r) → ((q : ℕ) → q ≢ r → reading_of book' q ≡ reading_of book q) → Shows (grips' t) (record_at book' t) (words_of T.setup words t) → Written T book' grips' (set words (queue_word_at r) n)
  written_queue r n inside new readings mine =
      let j : ℕ = queue_word_at r in
      let long = w.long in record {
        long = length-set words j n ∙ long;
        queues = λ q lt. dite (ℕ_discrete q r)
            (λ same. ap (λ m. get_or (set words j n) (queue_word_at m) 0) same ∙ get_or-set_same words j n 0 (omega arith) ∙ new ∙ ap (λ m. queue_word (reading_of book' m)) (sym same))
            (λ other. get_or-set_other words j (queue_word_at q) n 0 (λ e. other (omega arith)) ∙ w.queues q lt ∙ ap queue_word (sym (readings q other)));
        tasks = λ u lt. dite (ℕ_discrete u t)
            (at_task j n (subst (λ v. Shows (grips' t) (record_at book' t) v) (sym (set_else T.setup words t j n (λ e. omega arith) (λ e. omega arith) (λ e. omega arith))) mine) u)
            (λ other. others u j n lt other (λ e. omega arith) (λ e. omega arith) (λ e. omega arith));
      }

  -- no word changes, and no reading
  pub written_same : ((r : ℕ) → r < length T.setup.queues → reading_of book' r ≡ reading_of book r) → Shows (grips' t) (record_at book' t) (words_of T.setup words t) → Written T book' grips' words
  written_same readings mine = record {
    long = w.long;
    queues = λ r lt. w.queues r lt ∙ ap queue_word (sym (readings r lt));
    tasks = λ u lt. dite (ℕ_discrete u t)
        (λ is. subst (λ v. Shows (grips' v) (record_at book' v) (words_of T.setup words v)) (sym is) mine)
        (λ other. shows_as (grips u) (grips' u) (record_at book u) (record_at book' u) (words_of T.setup words u) (words_of T.setup words u) (sym (else u other)) (sym (records u other)) refl (w.tasks u lt));
  }
