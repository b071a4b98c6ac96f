-- With nothing pending no move is legal, and readings of one CPU have their points in one order.
use Rattle.std.proofs.Common.{◌≡◌, refl, sym, ap, ap₂, subst, ◌⊎◌, ⊎_elim, inl, inr, ◌∙◌, ℕ, true, false, true≢false, Some, None, is_some, unwrap_or, List, [], ◌∷◌, ◌==◌, length, arith}
use Rattle.std.specs.Prelude.{option_and_then, position, slice_get}
use Rattle.std.specs.List.{list_all, position_or_len}
use Rattle.probe_run.specs.declared.rules.PlayRules.{PlayRules}
use Rattle.probe_run.specs.declared.moves.RunMove.{RunMove}
use Rattle.probe_run.specs.declared.moves.RunMove.TheVariants.{Settle, Meet, OpenDequeue}
use Rattle.probe_run.specs.declared.waiting.Claim.{Claim}
use Rattle.probe_run.specs.State.{State}
use Rattle.probe_run.specs.Moves.{is_claim_by, is_rest_by, moved_of, settle_at, met_at, rest_at}
use Rattle.probe_explain.specs.Explained.{RunStep, makes, plays, step_of, run_of, lines_of}
use Rattle.probe_explain.specs.NothingPending.{HasNothingPending, HasReadingsOfOne, HasNothingPendingAtLines, OnlyLinesComeNext, LinesDecide}

no_settle : (t : PlayRules) (s : State) (k : ℕ) → s.pending ≡ [] → moved_of t s (Settle k) ≡ None
no_settle t s k h = ap (λ ps. settle_at s k (slice_get ps k)) h

no_rest : (t : PlayRules) (s : State) (x : ℕ) → s.open_dequeues ≡ [] → moved_of t s (OpenDequeue x) ≡ None
no_rest t s x h = ap (λ ds. rest_at t s (position (is_rest_by x) ds)) h

no_meet : (t : PlayRules) (s : State) (x : ℕ) → s.claims ≡ [] → moved_of t s (Meet x) ≡ None
no_meet t s x h = ap (λ cs. met_at s (position (is_claim_by x) cs)) h

pub only_lines : (t : PlayRules) (s : State) → OnlyLinesComeNext t s
only_lines t s h (Settle k) = no_settle t s k h.0
only_lines t s h (Meet x) = no_meet t s x h.2
only_lines t s h (OpenDequeue x) = no_rest t s x h.1

-- a step that was made, and the steps behind it
abbrev Behind : PlayRules → State → RunStep → List RunStep → State → Type 0
Behind t s m ms here = (next : State) × (step_of t s m ≡ Some next) × (run_of t next ms ≡ Some here)

behind : (t : PlayRules) (s : State) (m : RunStep) (ms : List RunStep) (here : State) → run_of t s (m ∷ ms) ≡ Some here → Behind t s m ms here
behind t s m ms here e =
    elim (step_of t s m) as (λ o. option_and_then (λ next. run_of t next ms) o ≡ Some here → (next : State) × (o ≡ Some next) × (run_of t next ms ≡ Some here))
    [ None ↦ λ h. cc | Some next ↦ λ h. (next, refl, h) ] e

inside : (a b : State) → Some a ≡ Some b → a ≡ b
inside a b e = ap (λ o. unwrap_or o a) e

some_is_not_none : (a : State) → Some a ≡ None → true ≡ false
some_is_not_none a e = ap is_some e

-- a run that has nothing pending makes no move
not_made : (t : PlayRules) (s : State) (m : RunMove) (ms : List RunStep) (here : State) → HasNothingPending s → run_of t s (makes m ∷ ms) ≡ Some here → true ≡ false
not_made t s m ms here h e =
    let b = behind t s (makes m) ms here e in
    some_is_not_none b.0 (sym b.1 ∙ only_lines t s h m)

-- what is found of claims of one CPU is a claim of that CPU
none_of_other : (x y : ℕ) (cs : List Claim) → (y == x) ≡ false → list_all (is_claim_by x) cs ≡ true → position_or_len (is_claim_by y) cs ≡ length cs
none_of_other x y [] n h = refl
none_of_other x y (c ∷ cs) n h =
    let tail : list_all (is_claim_by x) cs ≡ true = grind (arith, h) in
    let head : (c.place.cpu == x) ≡ true = grind (arith, h) in
    let rest = none_of_other x y cs n tail in
    grind (arith, n, head, rest)

found_of_one : (x y : ℕ) (cs : List Claim) → list_all (is_claim_by x) cs ≡ true → (position (is_claim_by y) cs ≡ None) ⊎ (y ≡ x)
found_of_one x y cs h =
    elim (y == x) as (λ b. (y == x) ≡ b → (position (is_claim_by y) cs ≡ None) ⊎ (y ≡ x)) [
      | true ↦ λ e. inr (let same : y ≡ x = grind (arith, e) in same)
      | false ↦ λ e. inl (let none = none_of_other x y cs e h in let found : position (is_claim_by y) cs ≡ None = grind (arith, none) in found)
    ] refl

-- the CPU of a reading that can be met
met_by_one : (t : PlayRules) (s a : State) (x y : ℕ) → list_all (is_claim_by x) s.claims ≡ true → moved_of t s (Meet y) ≡ Some a → y ≡ x
met_by_one t s a x y h p =
    ⊎_elim (λ (e : position (is_claim_by y) s.claims ≡ None). let none : moved_of t s (Meet y) ≡ None = ap (λ o. met_at s o) e in absurd (true≢false (some_is_not_none a (sym p ∙ none))))
    (λ (e : y ≡ x). e) (found_of_one x y s.claims h)

same_meet : (t : PlayRules) (s a b : State) (y z : ℕ) → HasReadingsOfOne s → moved_of t s (Meet y) ≡ Some a → moved_of t s (Meet z) ≡ Some b → y ≡ z
same_meet t s a b y z h p q = met_by_one t s a h.2.0 y h.2.1 p ∙ sym (met_by_one t s b h.2.0 z h.2.1 q)

-- two moves that are legal where one CPU has read, and nothing else is pending, are the same
same_move : (t : PlayRules) (s a b : State) (m n : RunMove) → HasReadingsOfOne s → moved_of t s m ≡ Some a → moved_of t s n ≡ Some b → m ≡ n
same_move t s a b (Settle k) n h p q = absurd (true≢false (some_is_not_none a (sym p ∙ no_settle t s k h.0)))
same_move t s a b (OpenDequeue x) n h p q = absurd (true≢false (some_is_not_none a (sym p ∙ no_rest t s x h.1)))
same_move t s a b (Meet y) (Settle k) h p q = absurd (true≢false (some_is_not_none b (sym q ∙ no_settle t s k h.0)))
same_move t s a b (Meet y) (OpenDequeue x) h p q = absurd (true≢false (some_is_not_none b (sym q ∙ no_rest t s x h.1)))
same_move t s a b (Meet y) (Meet z) h p q = ap (λ x. Meet x) (same_meet t s a b y z h p q)

pub lines_decide : (t : PlayRules) (s : State) (one other : List RunStep) → LinesDecide t s one other
lines_decide t s [] [] e q r here there a b = inside here there (sym a ∙ b)
lines_decide t s [] (makes m ∷ ms) e q r here there a b = absurd (true≢false (not_made t s m ms there q b))
lines_decide t s [] (plays l c ∷ ms) e q r here there a b = cc
lines_decide t s (makes m ∷ ms) [] e q r here there a b = absurd (true≢false (not_made t s m ms here r a))
lines_decide t s (plays l c ∷ ms) [] e q r here there a b = cc
lines_decide t s (makes m ∷ ms) (plays l c ∷ ns) e q r here there a b = absurd (true≢false (not_made t s m ms here r.0 a))
lines_decide t s (plays l c ∷ ms) (makes m ∷ ns) e q r here there a b = absurd (true≢false (not_made t s m ns there q.0 b))
lines_decide t s (makes m ∷ ms) (makes n ∷ ns) e q r here there a b =
    let one = behind t s (makes m) ms here a in
    let other = behind t s (makes n) ns there b in
    let same : m ≡ n = same_move t s one.0 other.0 m n q.0 one.1 other.1 in
    let next : other.0 ≡ one.0 = inside other.0 one.0 (sym other.1 ∙ (ap (λ x. moved_of t s x) (sym same) ∙ one.1)) in
    lines_decide t one.0 ms ns e (q.1 one.0 one.1) (subst (λ x. HasNothingPendingAtLines t x ns) next (r.1 other.0 other.1)) here there one.2
    (subst (λ x. run_of t x ns ≡ Some there) next other.2)
lines_decide t s (plays l c ∷ ms) (plays k d ∷ ns) e q r here there a b =
    let one = behind t s (plays l c) ms here a in
    let other = behind t s (plays k d) ns there b in
    let line : k ≡ l = cc in
    let rest : lines_of ms ≡ lines_of ns = cc in
    let choice : d ≡ c = r.1 ∙ sym q.1 in
    let next : other.0 ≡ one.0 = inside other.0 one.0 (sym other.1 ∙ (ap₂ (λ x y. step_of t s (plays x y)) line choice ∙ one.1)) in
    lines_decide t one.0 ms ns rest (q.2 one.0 one.1) (subst (λ x. HasNothingPendingAtLines t x ns) next (r.2 other.0 other.1)) here there one.2
    (subst (λ x. run_of t x ns ≡ Some there) next other.2)
