-- The plan of files whose heads were read first: what `plan` and `plan_by_threads` answer.
use Rattle.std.proofs.Common.{◌≡◌, ℕ, suc, true, ◌+◌, ◌<◌, ◌≤◌, ◌⊎◌, inl, inr, List, [], ◌∷◌, ◌++◌, drop, length, get_or, map, take, Result, Ok, Err, IfOk, refl, sym, ap, ◌∙◌, arith, set, subst}
use Rattle.std.specs.Prelude.{IfErr, nat_lt}
use Rattle.std.proofs.lemmas.Bool.Decides.{nat_tests}
use Rattle.std.proofs.lemmas.Bool.{le-ltb}
use Rattle.std.proofs.Math.Seq.{map-set_same}
use Rattle.std.proofs.lemmas.List.{append-nil, drop_all, get_or-set_same, length-set, take-set, take_all}
use Rattle.std.proofs.lemmas.List.Elements.{All-get_or, All-more, All-set}
use Rattle.grub_plan.specs.Plans.{PlanView}
use Rattle.grub_trace.specs.declared.below.Below.{Below}
use Rattle.grub_trace.specs.declared.fault.Kind.{Kind}
use Rattle.grub_trace.specs.declared.fault.TraceFault.{TraceFault}
use Rattle.grub_trace.specs.declared.fault.TraceFault.TheVariants as fault
use Rattle.grub_trace.specs.declared.fault.Kind.TheVariants.{MissingQueue, OutOfRange}
use Rattle.grub_trace.specs.declared.heads.Heads.{Heads}
use Rattle.grub_trace.specs.declared.raw.Head.{Head}
use Rattle.grub_trace.specs.declared.tasks.Tasks.{Tasks}
use Rattle.grub_trace.specs.inside.Bodies.{AreRead, HaveHeads, IsRead, head_above}
use Rattle.grub_trace.specs.inside.Heads.{GiveTogether, IsHead}
use Rattle.grub_trace.specs.inside.Planning.{AreHeadsOf, FilesGive, IsPlanned}
use Rattle.grub_trace.specs.inside.Reading.{AllRead, AnswersAs, AnswersOpening, Faults, Body, IsIndexed, declarations, plan_from, plan_of_read, read_from, scripts_from, ◌>>=◌}
use Rattle.grub_trace.specs.Naming.{plan_with}
use Rattle.grub_trace.specs.Tree.{names_of}
use Rattle.grub_trace.proofs.Elsewhere.{not_zero}
use Rattle.grub_trace.proofs.FilesInTurn.{faults_then}
use Rattle.grub_trace.proofs.LineLemmas.{same_error}

-- ---- one body after the other

pub bodies_next : (t : Tasks) (bs : List Below) (i : ℕ) (b old : Below) → i < length bs → old ≡ get_or bs i old → b.head ≡ old.head → IsRead t b → HaveHeads bs → AreRead t (take i bs)
    → (map head_above (set bs i b) ≡ map head_above bs) × HaveHeads (set bs i b) × AreRead t (take (i + 1) (set bs i b))
bodies_next t bs i b old lt item same read heads before =
    let place : (get_or bs i old).head ≡ b.head = ap head_above (sym item) ∙ sym same in (
      map-set_same head_above bs i b old (sym place),
      All-set (λ x. IsHead x.head) bs i b (subst IsHead place (All-get_or (λ x. IsHead x.head) bs i old lt heads)) heads,
      All-more (IsRead t) (set bs i b) i old (subst (λ n. i < n) (sym (length-set bs i b)) lt) (subst (AreRead t) (sym (take-set bs i b)) before) (subst (IsRead t) (sym (get_or-set_same bs i b old lt)) read),
    )

pub all_taken : (t : Tasks) (bs : List Below) (i : ℕ) → length bs ≤ i → AreRead t (take i bs) → AreRead t bs
all_taken t bs i le are = subst (AreRead t) (take_all i bs le) are

-- the same heads, place by place
pub same_heads : (old new : List Below) → length new ≡ length old → ((i : ℕ) (d : Below) → i < length old → (get_or new i d).head ≡ (get_or old i d).head) → map head_above new ≡ map head_above old
same_heads [] [] len each = refl
same_heads [] (n ∷ ns) len each = absurd (omega (arith, len))
same_heads (o ∷ os) [] len each = absurd (omega (arith, len))
same_heads (o ∷ os) (n ∷ ns) len each =
    let here : n.head ≡ o.head = each 0 n (omega arith) in
    ap (λ (h : Head). h ∷ map head_above ns) here ∙ ap (λ (hs : List Head). o.head ∷ hs) (same_heads os ns (omega (arith, len)) (λ i d lt. each (suc i) d (omega (arith, lt))))

-- ---- as many files as may be

plan_after : (files : List (List ℕ)) → 0 < length files → length files ≤ 64 → plan_from files ≡ (read_from (record { declared = []; files = [] }) 0 files >>= λ all. plan_of_read all)
unfolding plan_from
plan_after files some few = rw (le-ltb 64 (length files) few, not_zero (length files) some) refl

-- a fault of reading is the plan's
pub read_fault : (e : TraceFault) (files : List (List ℕ)) → 0 < length files → length files ≤ 64 → Faults e (read_from (record { declared = []; files = [] }) 0 files) → Faults e (plan_from files)
read_fault e files some few h = subst (Faults e) (sym (plan_after files some few)) (faults_then e _ (λ all. plan_of_read all) h)

-- so is a name that no file declares
pub name_fault : (e : TraceFault) (files : List (List ℕ)) (t : Tasks) (bs : List Body) → 0 < length files → length files ≤ 64 → read_from (record { declared = []; files = [] }) 0 files ≡ Ok (record { declared = declarations t; files = bs })
    → Faults e (scripts_from (names_of (declarations t)) [] 0 bs) → Faults e (plan_from files)
name_fault e files t bs some few read h =
    subst (Faults e) (sym (plan_after files some few ∙ ap (λ (r : Result AllRead (Kind × ℕ × ℕ)). r >>= λ all. plan_of_read all) read)) (faults_then e _ (λ scripts. Ok (plan_with (map (λ b. b.queue) bs) (declarations t) scripts)) h)

-- too many files, or none
pub planned_count : (files : List (List ℕ)) (e : TraceFault) → (64 < length files → e ≡ fault.At OutOfRange 64 1) → (length files ≡ 0 → e ≡ fault.At MissingQueue 0 1)
    → (64 < length files) ⊎ (length files ≡ 0) → IsPlanned files (Err e)
unfolding plan_from
planned_count files e many nothing (inl h) =
    let over : nat_lt 64 (length files) ≡ true = grind (arith, nat_tests) in
    let is : e ≡ fault.At OutOfRange 64 1 = many h in
    record {
      answers = subst (λ x. Faults x (plan_from files)) (sym is) (rw over refl);
      many = λ _. ap Err is;
      nothing = λ none. absurd (omega (arith, h, none));
      opening = λ some few. absurd (omega (arith, h, few));
    }
planned_count files e many nothing (inr h) =
    let is : e ≡ fault.At MissingQueue 0 1 = nothing h in
    record {
      answers = subst (λ x. Faults x (plan_from files)) (sym is) (rw h refl);
      many = λ over. absurd (omega (arith, h, over));
      nothing = λ _. ap Err is;
      opening = λ some few. absurd (omega (arith, h, some));
    }

-- a head that is wrong before anything else
pub planned_fault : (files : List (List ℕ)) (e : TraceFault) → 0 < length files → length files ≤ 64 → Faults e (read_from (record { declared = []; files = [] }) 0 files) → AnswersOpening {U = Heads} (Err e) (read_from (record { declared = []; files = [] }) 0 files) → IsPlanned files (Err e)
planned_fault files e some few faulty opening = record {
  answers = read_fault e files some few faulty;
  many = λ h. absurd (omega (arith, h, few));
  nothing = λ h. absurd (omega (arith, h, some));
  opening = λ _ _ k n le is. ap Err (same_error {X = Heads} e (fault.At k 0 n) (opening k n le is));
}

-- and what follows right heads
pub planned_then : (files : List (List ℕ)) (h : Heads) (r : Result PlanView TraceFault) → AreHeadsOf files h → AnswersAs r (λ p. p) (plan_from files) → IsPlanned files r
planned_then files h r heads answers = record {
  answers = answers;
  many = λ many. absurd (omega (arith, many, heads.together.few));
  nothing = λ none. absurd (omega (arith, none, heads.together.some));
  opening = λ _ _ k n le is. absurd (let x = heads.opening k n le is in cc);
}

-- what reading heads answers
pub heads_planned : (files : List (List ℕ)) (r : Result Heads TraceFault) → 0 < length files → length files ≤ 64 → IfErr r (λ e. Faults e (read_from (record { declared = []; files = [] }) 0 files)) → AnswersOpening r (read_from (record { declared = []; files = [] }) 0 files) → IfErr r (λ e. IsPlanned files (Err e))
heads_planned files (Ok h) some few faulty opening = tt
heads_planned files (Err e) some few faulty opening = planned_fault files e some few faulty opening

pub heads_are : (files : List (List ℕ)) (r : Result Heads TraceFault) → 0 < length files → length files ≤ 64 → IfOk r (λ h. GiveTogether (declarations h.tasks) (map head_above h.bodies.items) h.fault (read_from (record { declared = []; files = [] }) 0 files))
    → AnswersOpening r (read_from (record { declared = []; files = [] }) 0 files) → IfOk r (λ h. HaveHeads h.bodies.items) → IfOk r (λ h. IsIndexed h.tasks) → IfOk r (AreHeadsOf files)
heads_are files (Ok h) some few together opening heads indexed = record { together = record { some = some; few = few; together = together }; opening = opening; heads = heads; indexed = indexed }
heads_are files (Err e) some few together opening heads indexed = tt

-- what was written over all bodies is what they are
written : (h : Heads) (old new : List Below) → old ≡ h.bodies.items → length new ≡ length old → take h.bodies.len (new ++ drop (length new) h.bodies.items) ≡ new
written h old new value len =
    let rest : drop (length new) h.bodies.items ≡ [] = drop_all (length new) h.bodies.items (omega (arith, len, ap length value)) in
    ap (λ (xs : List Below). take h.bodies.len (new ++ xs)) rest ∙ ap (take h.bodies.len) (append-nil new) ∙ take_all h.bodies.len new (omega (arith, len, ap length value, h.bodies.ok.0))

-- the heads stay where what stands below them is written
pub still_together : (files : List (List ℕ)) (h : Heads) (old new : List Below) → AreHeadsOf files h → old ≡ h.bodies.items → length new ≡ length old → map head_above new ≡ map head_above old
    → FilesGive files h.tasks (map head_above (take h.bodies.len (new ++ drop (length new) h.bodies.items))) h.fault
still_together files h old new are value len same =
    subst (λ hs. FilesGive files h.tasks hs h.fault) (sym (ap (map head_above) (written h old new value len) ∙ same ∙ ap (map head_above) value)) are.together

-- and all of it is read
pub all_read : (t : Tasks) (h : Heads) (old new : List Below) → old ≡ h.bodies.items → length new ≡ length old → AreRead t new → AreRead t (take h.bodies.len (new ++ drop (length new) h.bodies.items))
all_read t h old new value len are = subst (AreRead t) (sym (written h old new value len)) are
