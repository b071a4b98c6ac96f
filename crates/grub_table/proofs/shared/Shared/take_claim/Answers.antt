use Rattle.std.proofs.Common.{◌==◌, ◌+◌, [], ◌∷◌, ◌++◌, true, ap, sym, subst, ◌∙◌, arith}
use Rattle.grub_table.proofs.Tasks.{task_word-claimed}
use Rattle.grub_table.proofs.Bounds.{task_word-lt}
use Rattle.grub_table.specs.declared.view.Access.TheVariants.{Exchange}
use Rattle.grub_table.specs.inside.Between.{Tells}
use Rattle.grub_table.specs.Calls.{made_on}
use Rattle.grub_table.specs.inside.Tellings.{TookClaim}
use Rattle.grub_table.proofs.TaskTurns.{take_claim_allowed}
use Rattle.grub_table.proofs.shared.Shared.take_claim.Goals as goal

pub overflow_add-claimed : goal.overflow_add-claimed
overflow_add-claimed c =
    let w = c.args.shown in
    omega (arith, c.requires.word, task_word-claimed w.place w.count, task_word-lt w.place w.count true c.requires.fits.place c.requires.fits.count)

pub exchange_saying-requires-clause-allowed : goal.exchange_saying-requires-clause-allowed
exchange_saying-requires-clause-allowed c =
    let w = c.args.shown in
    let claimed = ap (λ n. n + 8) c.requires.word ∙ sym (task_word-claimed w.place w.count) in
    take_claim_allowed c.args.self.now c.args.seated.now c.requires.seat c.requires.free c.args.t _ c.requires.task c.task_word_at-at.ensures.value c.args.op _ _ w.place w.count c.requires.word claimed

pub returns-clause-told : goal.returns-clause-told
returns-clause-told c =
    subst (λ n. Tells c.args.self.now (TookClaim (record { task = c.args.t; op = c.args.op }) n c.exchange_saying.result) c.args.seated.now c.exchange_saying.new.seated) c.requires.word c.exchange_saying.ensures.told

pub returns-clause-made : goal.returns-clause-made
returns-clause-made c =
    c.exchange_saying.ensures.made ∙ (λ i. made_on c.args.seated.now ++ Exchange (c.task_word_at-at.ensures.value i) (c.exchange_saying.result == c.requires.word i) ∷ [])
