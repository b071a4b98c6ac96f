-- Faults of the first two lines of the first file: no later fault is in their place, which is the `opening` of IsPlanOrFault.
use Rattle.std.proofs.Common.{◌≡◌, ℕ, zero, suc, All, ◌++◌, refl, ◌+◌, ◌-◌, ◌<◌, ◌≤◌, ◌⊎◌, inl, inr, List, [], ◌∷◌, length, get_or, drop, Result, Ok, Err, sym, ap, ◌∙◌, arith}
use Rattle.std.specs.Global.{Vec}
use Rattle.std.proofs.lemmas.List.Elements.{All-head, All-tail}
use Rattle.std.proofs.lemmas.Option.{slice_get_within}
use Rattle.grub_book.specs.Bandwidth.{Capacity}
use Rattle.grub_trace.specs.declared.version.Version.{Version}
use Rattle.grub_trace.specs.declared.fault.Kind.{Kind}
use Rattle.grub_trace.specs.declared.fault.TraceFault.TheVariants as fault
use Rattle.grub_trace.specs.declared.fault.TraceFault.{TraceFault}
use Rattle.grub_trace.specs.declared.raw.Head.{Head}
use Rattle.grub_trace.specs.declared.tasks.Tasks.{Tasks}
use Rattle.grub_trace.specs.inside.Heads.{IsHead, bodies_from, body_from, lines_below, read_body}
use Rattle.grub_trace.specs.Tree.{Declaration}
use Rattle.grub_trace.specs.FirstFault.{HeaderFault, QueueFault, FileFault, OpeningFault}
use Rattle.text_bytes.specs.Lines.{parts_of}
use Rattle.grub_plan.specs.Contents.{contents}
use Rattle.grub_trace.specs.inside.Reading.{Body, FileRead, AllRead, declarations, with_file, of_file, file_from, opened, read_queue, read_lines, read_second, read_file, read_from, ◌>>=◌, AnswersOpening}
use Rattle.grub_trace.proofs.LineLemmas.{bind_err, same_error, second_then}
use Rattle.grub_trace.proofs.LinesInTurn.{broke}
use Rattle.grub_trace.proofs.FilesInTurn.{drop_item, files_done}
use Rattle.grub_trace.proofs.HeadLaws.{HeadsOn, none_before}
use Rattle.grub_trace.proofs.PlanLaws.{of_file_err, files_fault}
use Rattle.grub_trace.proofs.FaultsAreGiven.{file_fault_again, parts_at}

-- ---- the first two lines

-- the fault that reading gives
pub opening_is : {U X : Type 0} (k : Kind) (f n : ℕ) (total : Result X (Kind × ℕ × ℕ)) → total ≡ Err (k, f, n) → AnswersOpening {U = U} {X = X} (Err (fault.At k f n)) total
opening_is {X = X} k f n total is = λ j m le e. let p = same_error {X = X} (k, f, n) (j, 0, m) (sym is ∙ e) in ap (λ (x : Kind × ℕ × ℕ). Err (fault.At x.0 x.1 x.2)) p

-- below a right second line nothing stops before line 3
pub second_late : {U : Type 0} (r : Result U TraceFault) (f : ℕ) (version : Version) (ds : List Declaration) (text line rest : List ℕ) (q : Capacity) → parts_of text ≡ line ∷ parts_of rest → read_queue line ≡ Ok q
    → AnswersOpening r (of_file f (read_second version ds (parts_of text)))
second_late r f version ds text line rest q parts queue = λ k n le e.
    absurd (elim (bind_err (read_lines (opened version ds) 3 (parts_of rest)) (λ r. Ok (file_from q (3 + (length r.declared - length ds)) r)) (k, n) (sym (second_then version ds text line rest q parts queue) ∙ (of_file_err f _ k 0 n e).0)) [
      | inl x ↦ let b = broke (parts_of rest) (opened version ds) 3 n k x in omega (arith, b.number, le)
      | inr x ↦ let y = x.2 in cc
    ])

-- ---- files

-- from file f on nothing stops in a file before it
from_late : (files : List (List ℕ)) (all : AllRead) (f g : ℕ) (k : Kind) (n : ℕ) → read_from all f files ≡ Err (k, g, n) → f ≤ g
from_late files all f g k n e = let u = files_fault files all f k g n e in omega (arith, u.2)

from_first : (all : AllRead) (f : ℕ) (k : Kind) (n : ℕ) (bytes : List ℕ) (more : List (List ℕ)) → read_from all f (bytes ∷ more) ≡ Err (k, 0, n) → of_file f (read_file all.declared bytes) ≡ Err (k, 0, n)
unfolding read_from
from_first all f k n bytes more e =
    elim (bind_err (of_file f (read_file all.declared bytes)) (λ r. read_from (with_file all r) (f + 1) more) (k, 0, n) e) [
      | inl x ↦ x
      | inr x ↦ absurd (let late = from_late more (with_file all x.0) (f + 1) 0 k n x.2 in omega arith)
    ]

-- a file that stops
pub opening_stop : {U X : Type 0} (e : TraceFault) (all : AllRead) (f : ℕ) (files : List (Vec ℕ)) (bytes : Vec ℕ) (total : Result AllRead (Kind × ℕ × ℕ)) → f < length files → bytes ≡ get_or files f bytes
    → AnswersOpening {U = U} {X = FileRead} (Err e) (of_file f (read_file all.declared bytes.items)) → read_from all f (contents (drop f files)) ≡ total → AnswersOpening {U = X} {X = AllRead} (Err e) total
opening_stop {U} e all f files bytes total lt item opening so_far = λ k n le is.
    let here : read_from all f (bytes.items ∷ contents (drop (f + 1) files)) ≡ Err (k, 0, n) = sym (ap (λ (vs : List (Vec ℕ)). read_from all f (contents vs)) (drop_item files f bytes lt item)) ∙ so_far ∙ is in
    ap Err (same_error {X = U} e (fault.At k 0 n) (opening k n le (from_first all f k n bytes.items (contents (drop (f + 1) files)) here)))

-- where all is read, there is none
pub opening_none : {X Y : Type 0} (x : X) (t : Result Y TraceFault) (total : Result X (Kind × ℕ × ℕ)) → total ≡ Ok x → AnswersOpening t total
opening_none x t total is = λ k n le e. absurd (let y = sym is ∙ e in cc)

-- ---- heads

-- below a head nothing stops before line 3
body_late : (h : Head) (k : Kind) (g n : ℕ) → IsHead h → read_body [] h ≡ Err (k, g, n) → 3 ≤ n
body_late h k g n is e =
    elim (bind_err (of_file h.file (lines_below [] h)) (λ r. Ok (body_from h r)) (k, g, n) e) [
      | inl x ↦ let b = broke (parts_of h.below.now) (opened h.version []) h.first n k (of_file_err h.file (lines_below [] h) k g n x).0 in omega (arith, b.number, is.third)
      | inr x ↦ absurd (let y = x.2 in cc)
    ]

bodies_late : (hs : List Head) (done : List Body) (k : Kind) (g n : ℕ) → All IsHead hs → bodies_from done hs ≡ Err (k, g, n) → 3 ≤ n
unfolding bodies_from
bodies_late [] done k g n are e = absurd cc
bodies_late (h ∷ hs) done k g n are e =
    elim (bind_err (read_body [] h) (λ b. bodies_from (done ++ b ∷ []) hs) (k, g, n) e) [
      | inl x ↦ body_late h k g n (All-head IsHead h hs are) x
      | inr x ↦ bodies_late hs (done ++ x.0 ∷ []) k g n (All-tail IsHead h hs are) x.2
    ]

-- behind the first head no opening is left
pub heads_past : {X : Type 0} (a : Tasks) (hs : List Head) (f : ℕ) (files : List (Vec ℕ)) (t : Result X TraceFault) → 0 < f → HeadsOn a hs f files → AnswersOpening t (read_from (record { declared = []; files = [] }) 0 (contents files))
heads_past a hs f files t later on = λ k n le e.
    let end = λ (bs : List Body). read_from (record { declared = declarations a; files = bs }) f (contents (drop f files)) in
    absurd (elim (bind_err (bodies_from [] hs) end (k, 0, n) (sym on.so_far ∙ e)) [
      | inl x ↦ let late = bodies_late hs [] k 0 n on.heads x in omega (arith, late, le)
      | inr x ↦ let late = from_late (contents (drop f files)) (record { declared = declarations a; files = x.0 }) f 0 k n x.2 in omega (arith, late, later)
    ])

-- a head that is wrong
pub heads_opening : {U X : Type 0} (e : TraceFault) (a : Tasks) (hs : List Head) (f : ℕ) (files : List (Vec ℕ)) (bytes : Vec ℕ) → f < length files → bytes ≡ get_or files f bytes
    → AnswersOpening {U = U} {X = FileRead} (Err e) (of_file f (read_file (declarations a) bytes.items)) → HeadsOn a hs f files → AnswersOpening {U = X} {X = AllRead} (Err e) (read_from (record { declared = []; files = [] }) 0 (contents files))
heads_opening e a hs zero files bytes lt item opening on = opening_stop e (record { declared = declarations a; files = [] }) zero files bytes _ lt item opening (sym (none_before hs _ on.count) ∙ sym on.so_far)
heads_opening e a hs (suc f) files bytes lt item opening on = heads_past a hs (suc f) files _ (omega arith) on

-- all heads
pub heads_over : {X : Type 0} (a : Tasks) (hs : List Head) (f : ℕ) (files : List (Vec ℕ)) (t : Result X TraceFault) → length files ≤ f → HeadsOn a hs f files → AnswersOpening t (read_from (record { declared = []; files = [] }) 0 (contents files))
heads_over a hs zero files t le on = opening_none _ t _ (sym (sym (none_before hs _ on.count) ∙ sym on.so_far) ∙ files_done (record { declared = declarations a; files = [] }) zero files _ le refl)
heads_over a hs (suc f) files t le on = heads_past a hs (suc f) files t (omega arith) on

-- ---- the plan

-- a fault of the opening is the one that reading gives
opens_first : (files : List (List ℕ)) (k : Kind) (n : ℕ) → (h : OpeningFault files k n) → (n ≤ 2) × (read_from (record { declared = []; files = [] }) 0 files ≡ Err (k, 0, n))
unfolding read_from
opens_first files k n h =
    let none : AllRead = record { declared = []; files = [] } in
    let file : read_file [] h.bytes ≡ Err (k, n) = file_fault_again [] h.bytes k n (as_file h.bytes h.fault) in (
      soon h.bytes h.fault,
      ap (λ (fs : List (List ℕ)). read_from none 0 fs) (parts_at files 0 h.bytes h.is) ∙ ap (λ (r : Result FileRead (Kind × ℕ)). of_file 0 r >>= λ r. read_from (with_file none r) (0 + 1) (drop 1 files)) file,
    )
  where
    as_file : (bytes : List ℕ) → HeaderFault bytes k n ⊎ QueueFault bytes k n → FileFault [] bytes k n
    as_file bytes (inl h) = inl h
    as_file bytes (inr h) = inr (inl h)

    soon : (bytes : List ℕ) → HeaderFault bytes k n ⊎ QueueFault bytes k n → n ≤ 2
    soon bytes (inl h) = omega (arith, h.0)
    soon bytes (inr h) = omega (arith, h.number)

pub opening_if : {X : Type 0} (files : List (List ℕ)) (r : Result X TraceFault) → (0 < length files → length files ≤ 64 → AnswersOpening r (read_from (record { declared = []; files = [] }) 0 files))
    → (k : Kind) (n : ℕ) → OpeningFault files k n → r ≡ Err (fault.At k 0 n)
opening_if files r answers k n h =
    let first = opens_first files k n h in
    answers (slice_get_within files 0 h.bytes h.is) h.few k n first.0 first.1
