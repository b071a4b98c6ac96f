-- Comparisons one after another, and what is made of a run behind them.
use Rattle.std.proofs.Common.{◌≡◌, Bool, true, false, ◌&&◌, refl, sym, ◌∙◌, ap, rules, Option, Some, None, if◌then◌else◌}
use Rattle.probe_run.specs.State.{State}
use Rattle.probe_run.specs.Counting.{where_it_holds, Goes, Holds}

both_true : (a b : Bool) → a ≡ true → b ≡ true → (a && b) ≡ true
both_true true b e f = f
both_true false b e f = cc

-- two comparisons
pub both : (old mid new : State) (a b : Bool) → Holds old a mid → Holds mid b new → Holds old (a && b) new
both old mid new a b one other e =
    let behind = other e in
    let before = one behind.0 in
    (before.0, both_true a b before.1 behind.1, behind.2 ∙ before.2)

-- two comparisons, the second by the run at its point
pub both_at : (f : State → Bool) (old mid new : State) (a : Bool) → Holds old a mid → Holds mid (f mid) new → Holds old (a && f old) new
both_at f old mid new a one other e =
    let behind = other e in
    let before = one behind.0 in
    (before.0, both_true a (f old) before.1 (rw (sym before.2) behind.1), behind.2 ∙ before.2)

-- where a comparison holds, this is made of the run
pub then_made : (next : State → State) (old mid new : State) (a : Bool) → Holds old a mid → new.first ≡ mid.first → new ≡ next mid → Goes old (where_it_holds a (next old)) new
then_made next old mid new a one first made e =
    let before = one (sym first ∙ e) in
    (before.0, rw before.1 (ap Some (ap next (sym before.2) ∙ sym made)))

-- the same, and more comparisons behind
pub then_goes : (next : State → Option State) (old mid new : State) (a : Bool) → Holds old a mid → Goes mid (next mid) new
    → Goes old (if a then next old else None) new
then_goes next old mid new a one goes e =
    let behind = goes e in
    let before = one behind.0 in
    (before.0, rw before.1 (ap next (sym before.2) ∙ behind.1))

-- what comes behind a change of the run
pub after : (f : State → State) (next : State → Option State) (old mid new : State) → mid ≡ f old → mid.first ≡ old.first → Goes mid (next mid) new → Goes old (next (f old)) new
after f next old mid new made first goes e =
    let behind = goes e in
    (sym first ∙ behind.0, ap next (sym made) ∙ behind.1)

-- a change of the run that nothing may refuse
pub made : (old new s : State) → new ≡ s → new.first ≡ old.first → Goes old (Some s) new
made old new s e first h = (sym first ∙ h, ap Some (sym e))

pub unchanged : (s : State) → Goes s (Some s) s
unchanged s h = (h, refl)

-- where a comparison fails, what was before does not matter
pub never : (old mid new : State) → Holds mid false new → Holds old false new
never old mid new h e = let behind = h e in cc
