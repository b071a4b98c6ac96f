-- Reading lines one after the other.
use Rattle.std.proofs.Common.{◌≡◌, ℕ, Bool, true, false, ◌+◌, ◌<◌, List, [], ◌∷◌, length, Result, Ok, Err, refl, sym, ap, ◌∙◌, arith, cond, not, ◌&&◌, eqb, subst}
use Rattle.std.specs.Prelude.{MatchResult}
use Rattle.grub_book.specs.Bandwidth.{Capacity, reservation_fits}
use Rattle.grub_trace.specs.declared.version.Version.{Version}
use Rattle.grub_trace.specs.declared.fault.Kind.{Kind}
use Rattle.grub_trace.specs.declared.fault.Kind.TheVariants.{CutShort, BadHeader, BadLine, BadNumber, OutOfRange, DuplicateTask, MomentGoesBack}
use Rattle.grub_trace.specs.inside.Reading.{Read, FileRead, act_map, read_queue, read_second, read_first, read_as, read_file, file_from, opened, ok_unless, adds, take_option, times_of, read_lines, take_line, at_line, of_file, ◌>>=◌, Faults, two_fault, IsRunOf, IsRetuneOf, take_form, line_view, says, task_fault}
use Rattle.grub_trace.specs.Forms.{Form, task, at_moment, form_of, is_number, version_of, reservation_value}
use Rattle.text_bytes.specs.Lines.{is_end, parts_of, words_of}
use Rattle.text_bytes.specs.Digits.{value}
use Rattle.std.proofs.Common.{◌-◌, ◌⊎◌, inl, inr, Option, Some, None}
use Rattle.std.proofs.lemmas.List.{length-map}
use Rattle.grub_trace.specs.declared.fault.TraceFault.{TraceFault}
use Rattle.grub_trace.specs.declared.fault.TraceFault.TheVariants as fault
use Rattle.grub_trace.specs.Tree.{Declaration, names_of, is_moment, is_span, may_retune}
use Rattle.grub_plan.specs.declared.line.Act.{Act}
use Rattle.grub_plan.specs.declared.line.Act.TheVariants as act
use Rattle.grub_plan.specs.declared.line.Act.TheVariants.{Run, Retune}
use Rattle.grub_plan.specs.declared.line.Line as lines
use Rattle.std.specs.Borrow.{Bor}
use Rattle.std.specs.Prelude.{nat_le, nat_lt, is_none, ◌++◌}
use Rattle.std.proofs.Math.Bool.{and-true, and_assoc}
use Rattle.std.proofs.lemmas.Bool.Decides.{nat_tests}
use Rattle.grub_book.specs.Bandwidth.{Reservation}
use Rattle.grub_trace.specs.Naming.{task_of}
use Rattle.grub_trace.specs.inside.Lines.{GivesLine, TakesAct, plain_fault}
use Rattle.grub_trace.specs.Faults.{form_fault, is_timely, last_of}
use Rattle.text_bytes.proofs.Splits.{has_part}

-- ---- one step after another

pub same_value : {X E : Type 0} (x y : X) → ◌≡◌ {A = Result X E} (Ok x) (Ok y) → x ≡ y
same_value x y e = cc

pub same_error : {X E : Type 0} (x y : E) → ◌≡◌ {A = Result X E} (Err x) (Err y) → x ≡ y
same_error x y e = cc

pub bind_ok : {A B E : Type 0} (r : Result A E) (f : A → Result B E) (y : B) → (r >>= f) ≡ Ok y → (x : A) × (r ≡ Ok x) × (f x ≡ Ok y)
bind_ok (Ok x) f y e = (x, refl, e)
bind_ok (Err d) f y e = absurd cc

pub bind_err : {A B E : Type 0} (r : Result A E) (f : A → Result B E) (e : E) → (r >>= f) ≡ Err e → (r ≡ Err e) ⊎ ((x : A) × (r ≡ Ok x) × (f x ≡ Err e))
bind_err (Ok x) f e h = inr (x, refl, h)
bind_err {B = B} (Err d) f e h = inl (ap Err (same_error {X = B} d e h))

-- ---- lines

pub lines_step : (r : Read) (n : ℕ) (line rest : List ℕ) → read_lines r n (line ∷ parts_of rest) ≡ (at_line n (take_line r line) >>= λ s. read_lines s (n + 1) (parts_of rest))
unfolding read_lines
lines_step r n line rest = let h = has_part is_end rest in rw (h.2) refl

pub goes_on : (r s : Read) (n : ℕ) (text line rest : List ℕ) (total : Result Read (Kind × ℕ)) → parts_of text ≡ line ∷ parts_of rest → take_line r line ≡ Ok s → read_lines r n (parts_of text) ≡ total → read_lines s (n + 1) (parts_of rest) ≡ total
goes_on r s n text line rest total parts taken so_far =
    let one : read_lines r n (parts_of text) ≡ read_lines s (n + 1) (parts_of rest) = ap (read_lines r n) parts ∙ lines_step r n line rest ∙ ap (λ (x : Result Read Kind). at_line n x >>= λ s. read_lines s (n + 1) (parts_of rest)) taken in
    sym one ∙ so_far

-- the fault of a step is that of the steps from it on
faults_then : {X Y : Type 0} (e : TraceFault) (f : ℕ) (r : Result X (Kind × ℕ)) (k : X → Result Y (Kind × ℕ)) → Faults e (of_file f r) → Faults e (of_file f (r >>= k))
faults_then fault.NoMemory f r k h = tt
faults_then (fault.At j g n) f (Ok x) k h = absurd cc
faults_then {X = X} {Y = Y} (fault.At j g n) f (Err d) k h = let p = same_error {X = X} (d.0, f, d.1) (j, g, n) h in ap (λ (x : Kind × ℕ × ℕ). Err x) p

-- what was answered of a line whose fault got its place
pub placed_ok : {X : Type 0} (r : Result X Kind) (x : X) → MatchResult r (λ y. ◌≡◌ {A = Result X TraceFault} (Ok x) (Ok y)) (λ k. ⊥) → r ≡ Ok x
placed_ok (Ok y) x h = let p : y ≡ x = cc in ap Ok p
placed_ok (Err k) x h = absurd h

pub placed_err : {X : Type 0} {Q : Kind → Type 0} (r : Result X Kind) (f n : ℕ) (e : TraceFault) → ((k : Kind) → Q k → e ≡ fault.At k f n) → MatchResult r (λ y. ◌≡◌ {A = Result X TraceFault} (Err e) (Ok y)) Q → (k : Kind) × (r ≡ Err k) × (e ≡ fault.At k f n)
placed_err (Ok y) f n e is h = absurd cc
placed_err (Err k) f n e is h = (k, refl, is k h)

pub stops : (e : TraceFault) (f : ℕ) (r : Read) (n : ℕ) (text line rest : List ℕ) (total : Result Read (Kind × ℕ)) → parts_of text ≡ line ∷ parts_of rest → Faults e (of_file f (at_line n (take_line r line))) → read_lines r n (parts_of text) ≡ total → Faults e (of_file f total)
stops e f r n text line rest total parts taken so_far =
    subst (λ x. Faults e (of_file f x)) (sym (ap (read_lines r n) parts ∙ lines_step r n line rest) ∙ so_far) (faults_then e f (at_line n (take_line r line)) (λ s. read_lines s (n + 1) (parts_of rest)) taken)

pub last_line : (r : Read) (n : ℕ) (text : List ℕ) (total : Result Read (Kind × ℕ)) → parts_of text ≡ text ∷ [] → read_lines r n (parts_of text) ≡ total → total ≡ cond (eqb (length text) 0) (Ok r) (Err (CutShort, n))
unfolding read_lines
last_line r n text total parts so_far = sym so_far ∙ ap (read_lines r n) parts

pub ends_short : (r : Read) (n : ℕ) (text : List ℕ) (total : Result Read (Kind × ℕ)) → parts_of text ≡ text ∷ [] → eqb (length text) 0 ≡ false → read_lines r n (parts_of text) ≡ total → total ≡ Err (CutShort, n)
ends_short r n text total parts some so_far = last_line r n text total parts so_far ∙ ap (λ (b : Bool). cond b (Ok r) (Err (CutShort, n))) some

pub ends_whole : (r : Read) (n : ℕ) (text : List ℕ) (total : Result Read (Kind × ℕ)) → parts_of text ≡ text ∷ [] → eqb (length text) 0 ≡ true → read_lines r n (parts_of text) ≡ total → total ≡ Ok r
ends_whole r n text total parts none so_far = last_line r n text total parts so_far ∙ ap (λ (b : Bool). cond b (Ok r) (Err (CutShort, n))) none

-- ---- what is read is only added to

pub unless_err : {X : Type 0} (o : Option Kind) (x : X) (k : Kind) → ok_unless o x ≡ Err k → o ≡ Some k
unless_err {X = X} None x k e = absurd cc
unless_err {X = X} (Some j) x k e = ap Some (same_error {X = X} j k e)

pub unless_ok : {X : Type 0} (o : Option Kind) (x y : X) → ok_unless o x ≡ Ok y → (o ≡ None) × (x ≡ y)
unless_ok None x y e = (refl, cc)
unless_ok (Some k) x y e = absurd cc

pub taken : (r s : Read) (line : List ℕ) → take_line r line ≡ Ok s → (f : Form) × (form_of (words_of line) ≡ Some f) × (form_fault r.version (names_of r.declared) (times_of r.happenings) f ≡ None) × (adds f r ≡ s)
taken r s line e = go (form_of (words_of line)) refl e
  where
    go : (o : Option Form) → form_of (words_of line) ≡ o → take_option r o ≡ Ok s → (f : Form) × (form_of (words_of line) ≡ Some f) × (form_fault r.version (names_of r.declared) (times_of r.happenings) f ≡ None) × (adds f r ≡ s)
    go None is t = absurd cc
    go (Some f) is t = let k = unless_ok (form_fault r.version (names_of r.declared) (times_of r.happenings) f) (adds f r) s t in (f, is, k.0, k.1)

pub at_line_ok : {X : Type 0} (n : ℕ) (r : Result X Kind) (x : X) → at_line n r ≡ Ok x → r ≡ Ok x
at_line_ok n (Ok y) x e = let h : y ≡ x = cc in ap Ok h
at_line_ok n (Err k) x e = absurd cc

pub cond_ok : {A E : Type 0} (b : Bool) (x y : A) (e : E) → cond b (Ok x) (Err e) ≡ Ok y → (b ≡ true) × (x ≡ y)
cond_ok true x y e h = (refl, cc)
cond_ok false x y e h = absurd cc

-- ---- the first two lines

unfoldable pub queue_then : Version → List Declaration → List ℕ → List (List ℕ) → Result FileRead (Kind × ℕ)
queue_then version ds line parts = at_line 2 (read_queue line) >>= λ q. read_lines (opened version ds) 3 parts >>= λ r. Ok (file_from q (3 + (length r.declared - length ds)) r)

pub second_step : (version : Version) (ds : List Declaration) (line rest : List ℕ) → read_second version ds (line ∷ parts_of rest) ≡ queue_then version ds line (parts_of rest)
unfolding read_second queue_then
second_step version ds line rest = let h = has_part is_end rest in rw (h.2) refl

pub second_err : (version : Version) (ds : List Declaration) (text line rest : List ℕ) (k : Kind) → parts_of text ≡ line ∷ parts_of rest → read_queue line ≡ Err k → read_second version ds (parts_of text) ≡ Err (k, 2)
unfolding queue_then
second_err version ds text line rest k parts q = ap (read_second version ds) parts ∙ second_step version ds line rest ∙ rw q refl

-- what follows a right second line
pub second_then : (version : Version) (ds : List Declaration) (text line rest : List ℕ) (q : Capacity) → parts_of text ≡ line ∷ parts_of rest → read_queue line ≡ Ok q
    → read_second version ds (parts_of text) ≡ (read_lines (opened version ds) 3 (parts_of rest) >>= λ r. Ok (file_from q (3 + (length r.declared - length ds)) r))
unfolding queue_then
second_then version ds text line rest q parts is = ap (read_second version ds) parts ∙ second_step version ds line rest ∙ rw is refl

pub second_stops : (e : TraceFault) (f : ℕ) (version : Version) (ds : List Declaration) (text line rest : List ℕ) (q : Capacity) → parts_of text ≡ line ∷ parts_of rest → read_queue line ≡ Ok q
    → Faults e (of_file f (read_lines (opened version ds) 3 (parts_of rest))) → Faults e (of_file f (read_second version ds (parts_of text)))
second_stops e f version ds text line rest q parts is h = subst (λ x. Faults e (of_file f x)) (sym (second_then version ds text line rest q parts is)) (faults_then e f (read_lines (opened version ds) 3 (parts_of rest)) _ h)

pub first_step : (ds : List Declaration) (text line rest : List ℕ) → parts_of text ≡ line ∷ parts_of rest → read_file ds text ≡ read_as (version_of line) ds (parts_of rest)
unfolding read_file read_first
first_step ds text line rest parts = let h = has_part is_end rest in ap (read_first ds) parts ∙ rw (h.2) refl

pub first_known : (version : Version) (ds : List Declaration) (text line rest : List ℕ) → parts_of text ≡ line ∷ parts_of rest → version_of line ≡ Some version → read_file ds text ≡ read_second version ds (parts_of rest)
first_known version ds text line rest parts known = first_step ds text line rest parts ∙ ap (λ (o : Option Version). read_as o ds (parts_of rest)) known

pub header_err : (ds : List Declaration) (text line rest : List ℕ) → parts_of text ≡ line ∷ parts_of rest → version_of line ≡ None → read_file ds text ≡ Err (BadHeader, 1)
header_err ds text line rest parts unknown = first_step ds text line rest parts ∙ ap (λ (o : Option Version). read_as o ds (parts_of rest)) unknown

pub second_view : (version : Version) (ds : List Declaration) (text line rest : List ℕ) (q : Capacity) (r : Read) (k : ℕ) → parts_of text ≡ line ∷ parts_of rest → read_queue line ≡ Ok q → read_lines (opened version ds) 3 (parts_of rest) ≡ Ok r
    → k ≡ 3 + (length r.declared - length ds) → read_second version ds (parts_of text) ≡ Ok (file_from q (k) r)
second_view version ds text line rest q r k parts is h e =
    second_then version ds text line rest q parts is ∙ ap (λ (x : Result Read (Kind × ℕ)). x >>= λ r. Ok (file_from q (3 + (length r.declared - length ds)) r)) h ∙ ap (λ (n : ℕ). Ok (file_from q (n) r)) (sym e)

pub none_if : (b : Bool) (k : Kind) (o : Option Kind) → cond (not b) (Some k) o ≡ None → (b ≡ true) × (o ≡ None)
none_if true k o e = (refl, e)
none_if false k o e = absurd cc

-- ---- lines with two or three numbers

fault_from : (s w : Bool) (o : Option Kind) (k : Kind) → two_fault s w ≡ Some k → cond (not s) (Some BadNumber) (cond (not w) (Some OutOfRange) o) ≡ Some k
fault_from false w o k h = h
fault_from true false o k h = h
fault_from true true o k h = absurd cc

pub run_stops : (k : Kind) (r : Read) (m n d : List ℕ) → IsRunOf (Err k) m d → take_form r (at_moment m (Run n d)) ≡ Err k
run_stops k r m n d h =
    let f = at_moment m (Run n d) in
    let late = cond (not (is_timely (times_of r.happenings) f)) (Some MomentGoesBack) None in
    let within = is_moment (value m) && is_span (value d) in
    let fault : form_fault r.version (names_of r.declared) (times_of r.happenings) f ≡ Some k =
    ap (λ (b : Bool). cond (not (is_number m && b)) (Some BadNumber) (cond (not within) (Some OutOfRange) late)) (and-true (is_number d)) ∙ fault_from (is_number m && is_number d) within late k h in
    ap (λ (o : Option Kind). ok_unless o (adds f r)) fault

pub retune_stops : (k : Kind) (r : Read) (m n q p : List ℕ) → may_retune r.version ≡ true → IsRetuneOf (Err k) m q p → take_form r (at_moment m (Retune n q p)) ≡ Err k
retune_stops k r m n q p may h =
    let f = at_moment m (Retune n q p) in
    let late = cond (not (is_timely (times_of r.happenings) f)) (Some MomentGoesBack) None in
    let within = is_moment (value m) && reservation_fits (reservation_value q p) in
    let fault : form_fault r.version (names_of r.declared) (times_of r.happenings) f ≡ Some k =
    ap (λ (b : Bool). cond (not b) (Some BadLine) (cond (not (is_number m && (is_number q && (is_number p && true)))) (Some BadNumber) (cond (not within) (Some OutOfRange) late))) may
    ∙ ap (λ (s : Bool). cond (not s) (Some BadNumber) (cond (not within) (Some OutOfRange) late)) (sym (and_assoc (is_number m) (is_number q) (is_number p && true)) ∙ ap (λ (b : Bool). (is_number m && is_number q) && b) (and-true (is_number p)))
    ∙ fault_from (is_number m && is_number q && is_number p) within late k h in
    ap (λ (o : Option Kind). ok_unless o (adds f r)) fault

-- ---- lines with no number but the moment

abbrev is_plain : Act (Bor (List ℕ)) (Bor (List ℕ)) → Bool
is_plain (act.Run n d) = false
is_plain (act.Retune n q p) = false
is_plain a = true

-- the line of such an act
abbrev plain_line : List ℕ → Act (Bor (List ℕ)) (Bor (List ℕ)) → lines.Line (Bor (List ℕ))
plain_line w a = record { m = value w; act = act_map (λ n. n) (λ v. value v.now) a }

plain_said : (o : Option Kind) (r s : Read) (l : lines.Line (Bor (List ℕ))) → s ≡ says (line_view l) r → GivesLine (ok_unless o l) r (ok_unless o s)
plain_said None r s l e = ap Ok e
plain_said (Some k) r s l e = refl

plain_gives : (last : ℕ) (w : List ℕ) (r s : Read) (l : lines.Line (Bor (List ℕ))) → last_of (times_of r.happenings) ≡ last → s ≡ says (line_view l) r
    → GivesLine (ok_unless (plain_fault last w) l) r (ok_unless (cond (not (is_number w && true)) (Some BadNumber) (cond (not (is_moment (value w))) (Some OutOfRange) (cond (not (nat_le (last_of (times_of r.happenings)) (value w))) (Some MomentGoesBack) None))) s)
plain_gives last w r s l is said = rw (and-true (is_number w), is) (plain_said (plain_fault last w) r s l said)

pub plain_takes : (version : Version) (last : ℕ) (w : List ℕ) (a : Act (Bor (List ℕ)) (Bor (List ℕ))) → is_plain a ≡ true → TakesAct (ok_unless (plain_fault last w) (plain_line w a)) version last w a
plain_takes version last w (act.Join n) plain = λ r v is. plain_gives last w r _ (plain_line w (act.Join n)) is refl
plain_takes version last w (act.Wake n) plain = λ r v is. plain_gives last w r _ (plain_line w (act.Wake n)) is refl
plain_takes version last w (act.Block n) plain = λ r v is. plain_gives last w r _ (plain_line w (act.Block n)) is refl
plain_takes version last w (act.Leave n) plain = λ r v is. plain_gives last w r _ (plain_line w (act.Leave n)) is refl
plain_takes version last w (act.Exit n) plain = λ r v is. plain_gives last w r _ (plain_line w (act.Exit n)) is refl
plain_takes version last w (act.Run n d) plain = absurd cc
plain_takes version last w (act.Retune n q p) plain = absurd cc
plain_takes version last w act.Read plain = λ r v is. plain_gives last w r _ (plain_line w act.Read) is refl

-- ---- lines of tasks

task_fault_is : (version : Version) (ns : List (List ℕ)) (n q p : List ℕ) → form_fault version ns [] (task n q p) ≡ task_fault ns n q p
task_fault_is version ns n q p =
    ap (λ (b : Bool). cond (not (is_number q && b)) (Some BadNumber) (cond (not (nat_lt (length ns) 256 && reservation_fits (reservation_value q p))) (Some OutOfRange) (cond (not (is_none (task_of ns n))) (Some DuplicateTask) None))) (and-true (is_number p))

take_task : (version : Version) (ds : List Declaration) (n q p : List ℕ) → take_form (opened version ds) (task n q p) ≡ ok_unless (task_fault (names_of ds) n q p) (opened version (ds ++ record { name = n; params = reservation_value q p } ∷ []))
take_task version ds n q p = ap (λ (o : Option Kind). ok_unless o (opened version (ds ++ record { name = n; params = reservation_value q p } ∷ []))) (task_fault_is version (names_of ds) n q p)

pub task_stops : (k : Kind) (version : Version) (ds : List Declaration) (n q p : List ℕ) → Err k ≡ ok_unless (task_fault (names_of ds) n q p) (reservation_value q p) → take_form (opened version ds) (task n q p) ≡ Err k
task_stops k version ds n q p h = take_task version ds n q p ∙ ap (λ (o : Option Kind). ok_unless o (opened version (ds ++ record { name = n; params = reservation_value q p } ∷ []))) (unless_err (task_fault (names_of ds) n q p) (reservation_value q p) k (sym h))

pub task_taken : (params : Reservation) (version : Version) (ds : List Declaration) (n q p : List ℕ) → Ok params ≡ ok_unless (task_fault (names_of ds) n q p) (reservation_value q p) → take_form (opened version ds) (task n q p) ≡ Ok (opened version (ds ++ record { name = n; params = params } ∷ []))
task_taken params version ds n q p h =
    let t = unless_ok (task_fault (names_of ds) n q p) (reservation_value q p) params (sym h) in
    take_task version ds n q p ∙ ap (λ (o : Option Kind). ok_unless o (opened version (ds ++ record { name = n; params = reservation_value q p } ∷ []))) t.0 ∙ ap (λ (x : Reservation). Ok (opened version (ds ++ record { name = n; params = x } ∷ []))) t.1

fresh_task : (a b c d : Bool) → cond (not a) (Some BadNumber) (cond (not (b && c)) (Some OutOfRange) (cond (not d) (Some DuplicateTask) None)) ≡ None → (b ≡ true) × (d ≡ true)
fresh_task false b c d h = absurd cc
fresh_task true false c d h = absurd cc
fresh_task true true false d h = absurd cc
fresh_task true true true false h = absurd cc
fresh_task true true true true h = (refl, refl)

pub no_task : (o : Option ℕ) → is_none o ≡ true → o ≡ None
no_task None e = refl
no_task (Some i) e = absurd cc

-- there is room for such a task, and its name is new
pub task_fits : (params : Reservation) (ds : List Declaration) (n q p : List ℕ) → Ok params ≡ ok_unless (task_fault (names_of ds) n q p) (reservation_value q p) → (length ds < 256) × (task_of (names_of ds) n ≡ None)
task_fits params ds n q p h =
    let t = fresh_task (is_number q && is_number p) (nat_lt (length (names_of ds)) 256) (reservation_fits (reservation_value q p)) (is_none (task_of (names_of ds) n)) (unless_ok (task_fault (names_of ds) n q p) (reservation_value q p) params (sym h)).0 in
    let few : length (names_of ds) < 256 = grind (arith, nat_tests, t.0) in
    (omega (arith, few, length-map ds (λ (d : Declaration). d.name)), no_task (task_of (names_of ds) n) t.1)
