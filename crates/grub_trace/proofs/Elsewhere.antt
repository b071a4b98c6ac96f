-- What stands below a head does not depend on the tasks that are declared.
use Rattle.std.proofs.Common.{◌≡◌, ℕ, Bool, true, false, ◌+◌, ◌<◌, ◌≤◌, List, [], ◌∷◌, length, Option, Some, None, Result, Ok, Err, refl, sym, ap, ◌∙◌, arith, cond, eqb}
use Rattle.std.proofs.lemmas.Bool.Decides.{nat_tests}
use Rattle.std.proofs.lemmas.List.{length-map, length_push}
use Rattle.grub_trace.specs.declared.fault.Kind.{Kind}
use Rattle.grub_trace.specs.declared.fault.Kind.TheVariants.{BadLine, CutShort}
use Rattle.grub_trace.specs.declared.raw.Head.{Head}
use Rattle.grub_trace.specs.Tree.{Declaration}
use Rattle.grub_trace.specs.Forms.{Form, at_moment, form_of, queue, task}
use Rattle.text_bytes.specs.Lines.{is_end, parts_of, words_of}
use Rattle.text_bytes.specs.Digits.{value}
use Rattle.grub_trace.specs.Faults.{form_fault}
use Rattle.grub_trace.specs.inside.Forms.{begins_with_task, is_task}
use Rattle.grub_trace.specs.inside.Heads.{IsHead, body_from, lines_below, read_body}
use Rattle.grub_trace.specs.inside.Reading.{Read, act_map, adds, at_line, of_file, opened, read_lines, take_form, take_line, take_option, times_of, ok_unless, ◌>>=◌}
use Rattle.grub_trace.proofs.LineLemmas.{unless_ok}
use Rattle.text_bytes.proofs.Splits.{has_part}

-- the same where these tasks are declared
abbrev pub redeclare : List Declaration → Read → Read
redeclare ds r = record { version = r.version; declared = ds; happenings = r.happenings }

abbrev pub with_tasks : {E : Type 0} → List Declaration → Result Read E → Result Read E
with_tasks ds (Ok r) = Ok (redeclare ds r)
with_tasks ds (Err e) = Err e

unless_with : (ds : List Declaration) (o : Option Kind) (r : Read) → ok_unless o (redeclare ds r) ≡ with_tasks ds (ok_unless o r)
unless_with ds None r = refl
unless_with ds (Some k) r = refl

pub not_zero : (n : ℕ) → 1 ≤ n → eqb n 0 ≡ false
not_zero n h = grind (arith, nat_tests)

-- a task below a moment
pub late_task : (r : Read) (n q p : List ℕ) → 0 < length r.happenings → take_form r (task n q p) ≡ Err BadLine
late_task r n q p some =
    let len = length-map r.happenings (λ h. h.m) in
    let late : eqb (length (times_of r.happenings)) 0 ≡ false = not_zero (length (times_of r.happenings)) (omega (arith, len)) in
    rw late refl

form_elsewhere : (ds : List Declaration) (r : Read) (o : Option Form) → (is_task o ≡ true → 0 < length r.happenings) → take_option (redeclare ds r) o ≡ with_tasks ds (take_option r o)
form_elsewhere ds r None late = refl
form_elsewhere ds r (Some (queue a b)) late = refl
form_elsewhere ds r (Some (task n q p)) late = late_task (redeclare ds r) n q p (late refl) ∙ sym (ap (with_tasks ds) (late_task r n q p (late refl)))
form_elsewhere ds r (Some (at_moment m a)) late = unless_with ds (form_fault r.version [] (times_of r.happenings) (at_moment m a)) (adds (at_moment m a) r)

-- a line that is taken below a head says what happens
form_says : (r s : Read) (o : Option Form) → (is_task o ≡ true → 0 < length r.happenings) → take_option r o ≡ Ok s → 0 < length s.happenings
form_says r s None late e = absurd cc
form_says r s (Some (queue a b)) late e = absurd cc
form_says r s (Some (task n q p)) late e = absurd (let x = sym (late_task r n q p (late refl)) ∙ e in cc)
form_says r s (Some (at_moment m a)) late e =
    rw (← (unless_ok (form_fault r.version [] (times_of r.happenings) (at_moment m a)) (adds (at_moment m a) r) s e).1) (omega (arith, length_push r.happenings (record { m = value m; act = act_map (λ n. n) value a })))

-- a head's lines, or those below a moment
abbrev pub IsBelow : Read → List (List ℕ) → Type 0
IsBelow r parts = begins_with_task parts ≡ true → 0 < length r.happenings

pub lines_elsewhere : (parts : List (List ℕ)) (ds : List Declaration) (r : Read) (n : ℕ) → IsBelow r parts → read_lines (redeclare ds r) n parts ≡ with_tasks ds (read_lines r n parts)
unfolding read_lines
lines_elsewhere [] ds r n below = refl
lines_elsewhere (line ∷ []) ds r n below = last (eqb (length line) 0)
  where
    last : (b : Bool) → cond {A = Result Read (Kind × ℕ)} b (Ok (redeclare ds r)) (Err (CutShort, n)) ≡ with_tasks ds (cond {A = Result Read (Kind × ℕ)} b (Ok r) (Err (CutShort, n)))
    last true = refl
    last false = refl
lines_elsewhere (line ∷ next ∷ more) ds r n below =
    ap (λ (x : Result Read Kind). at_line n x >>= λ s. read_lines s (n + 1) (next ∷ more)) (form_elsewhere ds r (form_of (words_of line)) below)
    ∙ step (take_line r line) (λ s e. lines_elsewhere (next ∷ more) ds s (n + 1) (λ h. form_says r s (form_of (words_of line)) below e))
  where
    step : (t : Result Read Kind) → ((s : Read) → t ≡ Ok s → read_lines (redeclare ds s) (n + 1) (next ∷ more) ≡ with_tasks ds (read_lines s (n + 1) (next ∷ more)))
        → (at_line n (with_tasks ds t) >>= λ s. read_lines s (n + 1) (next ∷ more)) ≡ with_tasks ds (at_line n t >>= λ s. read_lines s (n + 1) (next ∷ more))
    step (Ok s) rest = rest s refl
    step (Err k) rest = refl

-- the lines below a head, with these tasks and with none
pub head_elsewhere : (ds : List Declaration) (h : Head) → IsHead h → lines_below ds h ≡ with_tasks ds (lines_below [] h)
head_elsewhere ds h is = lines_elsewhere (parts_of h.below.now) ds (opened h.version []) h.first (λ task. absurd (let x = sym task ∙ is.below in cc))

pub body_elsewhere : (ds : List Declaration) (h : Head) → IsHead h → read_body ds h ≡ read_body [] h
body_elsewhere ds h is = ap (λ (x : Result Read (Kind × ℕ)). of_file h.file x >>= λ r. Ok (body_from h r)) (head_elsewhere ds h is) ∙ same (lines_below [] h)
  where
    same : (x : Result Read (Kind × ℕ)) → (of_file h.file (with_tasks ds x) >>= λ r. Ok (body_from h r)) ≡ (of_file h.file x >>= λ r. Ok (body_from h r))
    same (Ok r) = refl
    same (Err e) = refl

-- a whole line that is first
pub front_below : (text line rest : List ℕ) → parts_of text ≡ line ∷ parts_of rest → is_task (form_of (words_of line)) ≡ true → begins_with_task (parts_of text) ≡ true
front_below text line rest parts is = let more = has_part is_end rest in ap begins_with_task (parts ∙ ap (λ ps. line ∷ ps) more.2) ∙ is
