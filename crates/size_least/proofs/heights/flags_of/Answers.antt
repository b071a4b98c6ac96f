use Rattle.std.proofs.Common.{◌≡◌, ◌≤◌, ℕ, IfOk, map, [], subst, sym, ◌∙◌, arith}
use Rattle.std.proofs.lemmas.Result.{IfOk-weaker}
use Rattle.size_least.specs.Jobs.{lates_after}
use Rattle.size_least.specs.declared.job.Job.{Job}
use Rattle.size_least.specs.Needs.{needs_after}
use Rattle.size_least.specs.inside.Rising.{flag}
use Rattle.size_least.proofs.Rise.{all-flags, late-flags}
use Rattle.size_least.proofs.heights.flags_of.Goals as goal

pub returns-then-below-eq0 : goal.returns-then-below-eq0
returns-then-below-eq0 c = λ all.
    let is : c.args.below ≡ 0 = omega (arith, c.if-below-eq0.true) in
    let P : ℕ → Type 0 = λ b. IfOk c.each.result (λ v. v.items ≡ map (flag b) (needs_after c.args.period [] c.args.jobs.now)) in
    subst P (sym is) (IfOk-weaker c.each.result (λ v. v.items ≡ map (λ (job : Job). 1) c.args.jobs.now) (λ v. v.items ≡ map (flag 0) (needs_after c.args.period [] c.args.jobs.now)) (λ v h. h ∙ all-flags c.args.period [] c.args.jobs.now) c.each.ensures)

pub returns : goal.returns
returns c = λ all.
    let some : 1 ≤ c.args.below = omega (arith, c.if-below-eq0.false) in
    IfOk-weaker c.lates_of.result (λ v. v.items ≡ lates_after c.args.below c.args.period [] c.args.jobs.now) (λ v. v.items ≡ map (flag c.args.below) (needs_after c.args.period [] c.args.jobs.now)) (λ v h. h ∙ late-flags c.args.period c.args.below [] c.args.jobs.now some c.requires tt all) c.lates_of.ensures
