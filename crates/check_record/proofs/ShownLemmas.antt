-- A line of a probe more.
use Rattle.std.proofs.Common.{◌≡◌, Bool, Option, List, [], ◌∷◌, ◌++◌, refl, ap, ◌∙◌, map, Result, Ok, Err, OnOk}
use Rattle.std.proofs.lemmas.List.{map-append}
use Rattle.probe_explain.specs.declared.search.ProbeLine.{ProbeLine}
use Rattle.trace_data.specs.declared.note.Kernel.{Kernel}
use Rattle.check_record.specs.Shown.{Shown, ShownProbe, as_read}
use Rattle.check_record.specs.Timed.{Timed}

pub one_more : (old new : List ProbeLine) (l : ProbeLine) → new ≡ old ++ l ∷ [] → map as_read new ≡ map as_read old ++ as_read l ∷ []
one_more old new l is = ap (λ ls. map as_read ls) is ∙ map-append as_read old (l ∷ [])

pub none_yet : (ls : List ProbeLine) → ls ≡ [] → map as_read ls ≡ []
none_yet ls none = ap (λ xs. map as_read xs) none

-- what follows where a call gives no fault
pub on_ok : {E P Q R S T : Type 0} (r : Result (Unit {0}) E) → (P → Q → R → S → T) → OnOk r P → OnOk r Q → OnOk r R → OnOk r S → OnOk r T
on_ok (Ok u) follows p q s t = follows p q s t
on_ok (Err e) follows p q s t = tt

-- what is shown is the same by each part
pub alike : (ps qs : List ShownProbe) (kernel : Option Kernel) (d e t u : Bool) (v w : Timed) → ps ≡ qs → d ≡ e → t ≡ u → v ≡ w
    → ◌≡◌ {A = Shown} (record { probes = ps; kernel = kernel; dequeues = d; timers = t; timed = v }) (record { probes = qs; kernel = kernel; dequeues = e; timers = u; timed = w })
alike ps qs kernel d e t u v w probes dequeues timers timed = rw (probes, dequeues, timers, timed) refl
