use Rattle.std.proofs.Common.{Bool, List, ℕ, cond, replicate, [], ◌∷◌, ◌++◌, ◌+◌, ◌-◌, ◌≡◌, ◌∙◌, arith, drop, sym, ap, refl}
use Rattle.std.proofs.lemmas.List.{append_assoc, replicate-append-replicate}
use Rattle.size_least.specs.Jobs.{late_of, lates_after}
use Rattle.size_least.proofs.Walk.{Answers-none, IsKept-none, count-next, lates-next}
use Rattle.size_least.proofs.witness.first_late.Goals as goal

pub loop-i-init : goal.loop-i-init
loop-i-init c = ([], rw c.new-renewals.ensures (IsKept-none (c.args.period - c.args.runtime) c.args.runtime), rw c.new-renewals.ensures (Answers-none c.args.runtime c.args.period), refl, refl)

pub loop-i-preserved : goal.loop-i-preserved
loop-i-preserved c =
    let inv = c.loop-i.invariant in
    let i = c.loop-i.i in
    let job = c.index-jobs-i.result in
    let kept = c.in_ok-step.ensures.kept in
    let answers = c.in_ok-step.ensures.answers inv.0 inv.2 in
    let counted = count-next _ _ 0 i (late_of c.args.runtime c.args.period c.args.jobs.now) _ inv.0 _ job c.are_done_by.result 0 c.requires.some c.loop-i-test.true c.index-jobs-i.is job.bounded kept answers (omega (arith, inv.3)) c.are_done_by.ensures (rw c.if-not-are_done_by.false refl) in
    let is : 0 ≡ cond _ 0 1 = ap (λ (b : Bool). cond b 0 1) (sym c.if-not-are_done_by.false ∙ c.are_done_by.ensures) in
    let listed = lates-next _ _ i _ (replicate i 0) (replicate (i + 1) 0) _ inv.0 _ job 0 c.requires.some c.loop-i-test.true c.index-jobs-i.is job.bounded kept answers inv.4 is (sym (replicate-append-replicate i 1 0)) in
    (job ∷ inv.0, kept, answers, omega (arith, counted), listed)

pub returns-then-not-are_done_by-clause-first : goal.returns-then-not-are_done_by-clause-first
returns-then-not-are_done_by-clause-first c =
    let inv = c.loop-i.invariant in
    let i = c.loop-i.i in
    let job = c.index-jobs-i.result in
    let kept = c.in_ok-step.ensures.kept in
    let answers = c.in_ok-step.ensures.answers inv.0 inv.2 in
    let is : 1 ≡ cond _ 0 1 = ap (λ (b : Bool). cond b 0 1) (sym c.if-not-are_done_by.true ∙ c.are_done_by.ensures) in
    let listed = lates-next _ _ i _ (replicate i 0) (replicate i 0 ++ 1 ∷ []) _ inv.0 _ job 1 c.requires.some c.loop-i-test.true c.index-jobs-i.is job.bounded kept answers inv.4 is refl in
    let rest : List ℕ = lates_after c.args.runtime c.args.period (job ∷ inv.0) (drop (i + 1) c.args.jobs.now) in
    (rest, sym (ap (λ (n : ℕ). replicate n 0 ++ 1 ∷ rest) c.late_at.ensures.job ∙ sym (append_assoc (replicate i 0) (1 ∷ []) rest) ∙ listed))
