use Rattle.std.proofs.Common.{◌≡◌, ◌+◌, [], ◌∷◌, List, length, rules, take, drop, get_or, Some, sym, ◌∙◌, subst, add-one, drop-cons}
use Rattle.std.proofs.lemmas.Fn.{FoldsTo-push}
use Rattle.std.proofs.lemmas.List.{take_more}
use Rattle.grub_plan.specs.Plans.{Line}
use Rattle.grub_plan.specs.declared.line.Act.TheVariants as acts
use Rattle.grub_plan.specs.Asked.{AsksLine}
use Rattle.grub_plan.specs.Limits.{ScriptFits}
use Rattle.grub_workers.proofs.script.ask_script.Goals as goal

-- One more line of the script was asked, and no later line goes back before it.
pub loop-line-preserved : goal.loop-line-preserved
loop-line-preserved g c =
    let inv = c.loop-line.invariant in let done = c.in_ok-pass.ensures in let i = c.loop-line.line-index in let script = c.args.script.now in
    let low = c.loop-line-test.true in let n = length c.args.desk.now.table.now.terms.setup.tasks in
    let first : Line = record { m = 0; act = acts.Join 0 } in
    let here : Line = get_or script i first in
    let left : drop i script ≡ here ∷ drop (i + 1) script = rw (add-one, drop-cons script i first) in
    let fits : ScriptFits n inv.2.0 (here ∷ drop (i + 1) script) = subst (λ (l : List Line). ScriptFits n inv.2.0 l) left inv.2.2 in
    let last = done.last in (
      done.at_work,
      rw (take_more script i first low) (FoldsTo-push (AsksLine c.args.desk.now.number) [] (take i script) _ here _ inv.1 done.asked),
      (here.m, (λ k at. let same : Some here.m ≡ Some k = sym last ∙ at in grind rules), fits.3),
    )
